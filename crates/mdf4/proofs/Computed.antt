-- Opens every definition that an entry goes through, so that rows compute: a proof by `refl` says `unfolding computed`.
use Rattle.utf8.specs.Utf8.{lead_of, trailing, ended, after_lead, step_of, chunk_of, chunks_after, chunks, shown, shown_all, lossy, char_count, well_formed, valid_utf8, bytes_of, bytes_all}
use Rattle.utf8.specs.White.{white_ranges, in_ranges, is_white, code_point, white_chunk, trim_start, keep, drop_end, trim_end, trim}
use Rattle.utf8.specs.Nul.{is_nul, trim_start_nuls, trim_end_nuls, trim_nuls, before_nul}
use Rattle.fmt.specs.Digits.{digits_to, digits, pad_left, pad_right, dec_signed}
use Rattle.fmt.specs.Format.{format_from, format}
use Rattle.fmt.specs.Preview.{preview, unlined}
use Rattle.mdf4.specs.Bytes.{bytes, little, num, words, within, inside, bit, count, tally, sum, concat_map}
use Rattle.mdf4.specs.Act.{and_then, check, pure, stop, raise, reason, ◌>>=◌, ◌>>◌, choose, sized, elem, seen, marked, visit, once, chain, following, by_link, each_link}
use Rattle.mdf4.specs.Kinds.{block_len, links_nr, data_at, master_cg_addr, shape, is, header_ok, rest, read_len, read_of, read_block, mark_in, cg_records, records_in, make_link, leads_to, name_link, name_is_text, name_head, name_check, name_ok, name_len}
use Rattle.mdf4.specs.Version.{before_dot, from_dot, number, numeral, parse_u16, parse_minor, version_text, version}
use Rattle.mdf4.specs.Walk.{content_ok, targets_ok, index_of, row_of, push, after_reading, list_block, enter, link_of, addr, text_kind, enter_text, walk_text_like, walk_source, walk_conversion, leads_to_data, record_data_block, record_unknown_block, walk_data_block, walk_data_list, list_too_deep, walk_data_region, walk_channel, hand_down, walk_channel_group, walk_data_group, walk_from_header, walk_header, walk_identification, start, walk}
use Rattle.mdf4.specs.Reads.{leads_to_block, link_ranges, link_extent, name_ranges, named_ranges, links_at, ranges_at, read_ranges, kept_ranges, spared_ranges}
use Rattle.mdf4.specs.Layout.{insert, sort, gap, compute_gaps, layout_of, walk_state, gaps_fitted, layout_if, layout, finalized}
use Rattle.mdf4.specs.Clear.{is_clear, close, open_at, runs, clear_ranges, le_bytes, range_bytes, clr_bytes}
use Rattle.mdf4.specs.Blank.{zeroed, nonzero}
use Rattle.mdf4.specs.Describe.{data_type_names, data_type_name, name_bytes, name_text, tx_text, md_text, payload, equal_length, describe_of, trailing_bytes, records, indented, extra_of, block_bytes, row_name, describe, extra_line, mark_bytes, mark_text, mark_column, link_name}
use Rattle.mdf4.specs.Listing.{head_lines, row_lines, gap_line, gap_lines, found_text, target_text, link_line, link_lines, links_of, block_links, to_text}
use Rattle.mdf4.specs.Tree.{bar, prefix_text, connector, edge_text, child_prefix, node_line, child_at, child_of, children, none_left, before, render_children, node_by, render_tree_node, root_by, roots, to_tree}
use Rattle.mdf4.specs.Paths.{from_block_at, path_up, is_listed, path}
use Rattle.mdf4.specs.Answers.{limits, row_words, link_words, range_words, filled, counts, exit, laid, laid_finalized, room, clearable, fitted, layout_made, to_text_made, to_tree_made, path_made, clear_list_made, blank_made, counted, preview_made, layout_exit, to_text_exit, to_tree_exit, path_exit, clear_list_exit, blank_exit, preview_exit, blanked, blank_recording}
use Rattle.mdf4.specs.Demand3.{origins_of}

unfoldable pub computed : Type 0
unfolding lead_of trailing ended after_lead step_of chunk_of chunks_after chunks shown shown_all lossy char_count well_formed valid_utf8 bytes_of bytes_all white_ranges in_ranges is_white code_point white_chunk trim_start keep drop_end trim_end trim is_nul trim_start_nuls trim_end_nuls trim_nuls before_nul digits_to digits pad_left pad_right dec_signed format_from format preview unlined bytes little num words within inside bit count tally sum concat_map and_then check pure stop raise reason ◌>>=◌ ◌>>◌ choose sized elem seen marked visit once chain following by_link each_link block_len links_nr data_at master_cg_addr shape is header_ok rest read_len read_of read_block mark_in cg_records records_in make_link leads_to name_link name_is_text name_head name_check name_ok name_len before_dot from_dot number numeral parse_u16 parse_minor version_text version content_ok targets_ok index_of row_of push after_reading list_block enter link_of addr text_kind enter_text walk_text_like walk_source walk_conversion leads_to_data record_data_block record_unknown_block walk_data_block walk_data_list list_too_deep walk_data_region walk_channel hand_down walk_channel_group walk_data_group walk_from_header walk_header walk_identification start walk leads_to_block link_ranges link_extent name_ranges named_ranges links_at ranges_at read_ranges kept_ranges spared_ranges insert sort gap compute_gaps layout_of walk_state gaps_fitted layout_if layout finalized is_clear close open_at runs clear_ranges le_bytes range_bytes clr_bytes zeroed nonzero data_type_names data_type_name name_bytes name_text tx_text md_text payload equal_length describe_of trailing_bytes records indented extra_of block_bytes row_name describe extra_line mark_bytes mark_text mark_column link_name head_lines row_lines gap_line gap_lines found_text target_text link_line link_lines links_of block_links to_text bar prefix_text connector edge_text child_prefix node_line child_at child_of children none_left before render_children node_by render_tree_node root_by roots to_tree from_block_at path_up is_listed path limits row_words link_words range_words filled counts exit laid laid_finalized room clearable fitted layout_made to_text_made to_tree_made path_made clear_list_made blank_made counted preview_made layout_exit to_text_exit to_tree_exit path_exit clear_list_exit blank_exit preview_exit blanked blank_recording origins_of
computed = Unit {0}
