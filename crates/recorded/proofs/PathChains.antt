-- path_chains.mf4, as the Rust answers it; links behind rows, path and clear list as the scripts draw them.
use mathlib.Core.Path.{◌≡◌, refl}
use mathlib.Core.List.{List, [], ◌∷◌, ◌++◌}
use Prim.Native.Nat.{ℕ}
use lib.ListN.{replicate}
use Rattle.fmt.specs.Text.{ascii}
use Rattle.mdf4.specs.Act.{ok, err, refusal}
use Rattle.mdf4.specs.Answers.{layout_exit, to_text_exit, to_tree_exit, path_exit, clear_list_exit}
use Rattle.mdf4.proofs.Computed.{computed}
use Rattle.mdf4.proofs.Recordings.{lent, counts}

recording : List ℕ
recording =
    ascii "MDF     4.10    console1" ++ replicate 4 0 ++ (154 ∷ 1 ∷ []) ++ replicate 34 0 ++ ascii "##HD" ++ replicate 4 0 ++ (104 ∷ [])
    ++ replicate 7 0 ++ (6 ∷ []) ++ replicate 7 0 ++ (168 ∷ []) ++ replicate 79 0 ++ ascii "##DG" ++ replicate 4 0 ++ (64 ∷ [])
    ++ replicate 7 0 ++ (4 ∷ []) ++ replicate 7 0 ++ (232 ∷ []) ++ replicate 7 0 ++ (40 ∷ 1 ∷ []) ++ replicate 30 0 ++ ascii "##DG"
    ++ replicate 4 0 ++ (64 ∷ []) ++ replicate 7 0 ++ (4 ∷ []) ++ replicate 15 0 ++ (120 ∷ 4 ∷ []) ++ replicate 30 0 ++ ascii "##CG"
    ++ replicate 4 0 ++ (104 ∷ []) ++ replicate 7 0 ++ (6 ∷ []) ++ replicate 7 0 ++ (144 ∷ 1 ∷ []) ++ replicate 6 0 ++ (248 ∷ 1 ∷ [])
    ++ replicate 70 0 ++ ascii "##CG" ++ replicate 4 0 ++ (104 ∷ []) ++ replicate 7 0 ++ (6 ∷ []) ++ replicate 15 0 ++ (216 ∷ 3 ∷ [])
    ++ replicate 70 0 ++ ascii "##CN" ++ replicate 4 0 ++ (160 ∷ []) ++ replicate 7 0 ++ (8 ∷ []) ++ replicate 7 0 ++ (152 ∷ 2 ∷ [])
    ++ replicate 134 0 ++ ascii "##CN" ++ replicate 4 0 ++ (160 ∷ []) ++ replicate 7 0 ++ (8 ∷ []) ++ replicate 7 0 ++ (56 ∷ 3 ∷ [])
    ++ replicate 134 0 ++ ascii "##CN" ++ replicate 4 0 ++ (160 ∷ []) ++ replicate 7 0 ++ (8 ∷ []) ++ replicate 143 0 ++ ascii "##CN"
    ++ replicate 4 0 ++ (160 ∷ []) ++ replicate 7 0 ++ (8 ∷ []) ++ replicate 143 0 ++ ascii "##CG" ++ replicate 4 0 ++ (104 ∷ [])
    ++ replicate 7 0 ++ (6 ∷ []) ++ replicate 87 0

visited : List ℕ
visited =
    0 ∷ 64 ∷ 168 ∷ 296 ∷ 504 ∷ 664 ∷ 824 ∷ 400 ∷ 984 ∷ 232 ∷ 1144 ∷ []

links : List ℕ
links =
    168 ∷ 1195647780 ∷ 0 ∷ 0 ∷ 0 ∷ 0 ∷ 0 ∷ 0 ∷ 0 ∷ 0 ∷ 0 ∷ 0 ∷ 232 ∷ 1195647780 ∷ 296 ∷ 1195582244 ∷ 0 ∷ 0 ∷ 0 ∷ 0 ∷ 400 ∷ 1195582244 ∷ 504
    ∷ 1313022756 ∷ 0 ∷ 0 ∷ 0 ∷ 0 ∷ 0 ∷ 0 ∷ 0 ∷ 0 ∷ 664 ∷ 1313022756 ∷ 0 ∷ 0 ∷ 0 ∷ 0 ∷ 0 ∷ 0 ∷ 0 ∷ 0 ∷ 0 ∷ 0 ∷ 0 ∷ 0 ∷ 0 ∷ 0 ∷ 824
    ∷ 1313022756 ∷ 0 ∷ 0 ∷ 0 ∷ 0 ∷ 0 ∷ 0 ∷ 0 ∷ 0 ∷ 0 ∷ 0 ∷ 0 ∷ 0 ∷ 0 ∷ 0 ∷ 0 ∷ 0 ∷ 0 ∷ 0 ∷ 0 ∷ 0 ∷ 0 ∷ 0 ∷ 0 ∷ 0 ∷ 0 ∷ 0 ∷ 0 ∷ 0 ∷ 0 ∷ 0 ∷ 0
    ∷ 0 ∷ 984 ∷ 1313022756 ∷ 0 ∷ 0 ∷ 0 ∷ 0 ∷ 0 ∷ 0 ∷ 0 ∷ 0 ∷ 0 ∷ 0 ∷ 0 ∷ 0 ∷ 0 ∷ 0 ∷ 0 ∷ 0 ∷ 0 ∷ 0 ∷ 0 ∷ 0 ∷ 0 ∷ 0 ∷ 0 ∷ 0 ∷ 0 ∷ 0 ∷ 1144
    ∷ 1195582244 ∷ 0 ∷ 0 ∷ 0 ∷ 0 ∷ 0 ∷ 0 ∷ 0 ∷ 0 ∷ 0 ∷ 0 ∷ 0 ∷ 0 ∷ 0 ∷ 0 ∷ 0 ∷ 0 ∷ []

gaps : List ℕ
gaps =
    []

blocks : List ℕ
blocks =
    0 ∷ 64 ∷ 64 ∷ 1145643811 ∷ 1 ∷ 0 ∷ 0 ∷ 0 ∷ 0 ∷ 0 ∷ 0 ∷ 0 ∷ 0 ∷ 0 ∷ 64 ∷ 168 ∷ 104 ∷ 1145578275 ∷ 2 ∷ 0 ∷ 0 ∷ 6 ∷ 0 ∷ 0 ∷ 0 ∷ 0 ∷ 0 ∷ 0
    ∷ 168 ∷ 232 ∷ 64 ∷ 1195647779 ∷ 3 ∷ 0 ∷ 6 ∷ 4 ∷ 0 ∷ 0 ∷ 0 ∷ 0 ∷ 64 ∷ 0 ∷ 232 ∷ 296 ∷ 64 ∷ 1195647779 ∷ 3 ∷ 1 ∷ 54 ∷ 4 ∷ 0 ∷ 0 ∷ 0 ∷ 0
    ∷ 168 ∷ 0 ∷ 296 ∷ 400 ∷ 104 ∷ 1195582243 ∷ 4 ∷ 0 ∷ 10 ∷ 6 ∷ 0 ∷ 0 ∷ 0 ∷ 0 ∷ 168 ∷ 1 ∷ 400 ∷ 504 ∷ 104 ∷ 1195582243 ∷ 4 ∷ 1 ∷ 40 ∷ 6 ∷ 0
    ∷ 0 ∷ 0 ∷ 0 ∷ 296 ∷ 0 ∷ 504 ∷ 664 ∷ 160 ∷ 1313022755 ∷ 5 ∷ 0 ∷ 16 ∷ 8 ∷ 0 ∷ 0 ∷ 0 ∷ 0 ∷ 296 ∷ 1 ∷ 664 ∷ 824 ∷ 160 ∷ 1313022755 ∷ 5 ∷ 1
    ∷ 24 ∷ 8 ∷ 0 ∷ 0 ∷ 0 ∷ 0 ∷ 504 ∷ 0 ∷ 824 ∷ 984 ∷ 160 ∷ 1313022755 ∷ 5 ∷ 2 ∷ 32 ∷ 8 ∷ 0 ∷ 0 ∷ 0 ∷ 0 ∷ 664 ∷ 0 ∷ 984 ∷ 1144 ∷ 160
    ∷ 1313022755 ∷ 5 ∷ 3 ∷ 46 ∷ 8 ∷ 0 ∷ 0 ∷ 0 ∷ 0 ∷ 400 ∷ 1 ∷ 1144 ∷ 1248 ∷ 104 ∷ 1195582243 ∷ 4 ∷ 2 ∷ 58 ∷ 6 ∷ 0 ∷ 0 ∷ 0 ∷ 0 ∷ 232 ∷ 1 ∷ []

layout : layout_exit (lent 11 154 128 0 0 0) recording
    ≡ record {
      answer = ok (counts 11 11 64 0 0);
      visited = visited;
      blocks = blocks;
      links = links;
      gaps = gaps;
      scratch = replicate 0 0;
      out =
          [];
    }
unfolding computed recording visited links gaps blocks
layout = refl

text : to_text_exit (lent 11 154 128 0 0 6062) recording
    ≡ record {
      answer = ok (counts 11 11 64 0 6062);
      visited = visited;
      blocks = blocks;
      links = links;
      gaps = gaps;
      scratch = replicate 0 0;
      out =
          ascii "MDF block layout (file size: 1248 bytes / 0x4e0)\n" ++ (10 ∷ []) ++ ascii "Blocks (11 total), sorted by offset:\n"
          ++ ascii "offset        end                 size  type    description\n"
          ++ ascii "------------  ------------  ----------  ------  ------------------------------------------------------------\n"
          ++ ascii "0x0000000000  0x0000000040          64  ##ID    Identification: version='4.10', program='console1'\n"
          ++ ascii "                                            version_number=410, standard_unfinalized_flags=0x0000, custom_unfinalized_flags=0x0000\n"
          ++ ascii "0x0000000040  0x00000000a8         104  ##HD    Header Block (abs_time=0 ns, tz=0 min)\n"
          ++ ascii "                                            flags=0x00, time_flags=0x00, time_quality=0x00\n"
          ++ ascii "0x00000000a8  0x00000000e8          64  ##DG    Data Group #0 (record_id_len=0)\n"
          ++ ascii "0x00000000e8  0x0000000128          64  ##DG    Data Group #1 (record_id_len=0)\n"
          ++ ascii "0x0000000128  0x0000000190         104  ##CG    Channel Group #0 (cycles=0, record=0B = 0B data + 0B inval + 0B record_id)\n"
          ++ ascii "                                            flags=0x0000, record_id=0\n"
          ++ ascii "0x0000000190  0x00000001f8         104  ##CG    Channel Group #1 (cycles=0, record=0B = 0B data + 0B inval + 0B record_id)\n"
          ++ ascii "                                            flags=0x0000, record_id=0\n"
          ++ ascii "0x00000001f8  0x0000000298         160  ##CN    Channel #0 '' (ch_type=0, sync=0, dtype=UnsignedIntegerLE, 0b @ byte=0 bit=0)\n"
          ++ ascii "                                            flags=0x00000000, pos_invalidation_bit=0, precision=0\n"
          ++ ascii "0x0000000298  0x0000000338         160  ##CN    Channel #1 '' (ch_type=0, sync=0, dtype=UnsignedIntegerLE, 0b @ byte=0 bit=0)\n"
          ++ ascii "                                            flags=0x00000000, pos_invalidation_bit=0, precision=0\n"
          ++ ascii "0x0000000338  0x00000003d8         160  ##CN    Channel #2 '' (ch_type=0, sync=0, dtype=UnsignedIntegerLE, 0b @ byte=0 bit=0)\n"
          ++ ascii "                                            flags=0x00000000, pos_invalidation_bit=0, precision=0\n"
          ++ ascii "0x00000003d8  0x0000000478         160  ##CN    Channel #3 '' (ch_type=0, sync=0, dtype=UnsignedIntegerLE, 0b @ byte=0 bit=0)\n"
          ++ ascii "                                            flags=0x00000000, pos_invalidation_bit=0, precision=0\n"
          ++ ascii "0x0000000478  0x00000004e0         104  ##CG    Channel Group #2 (cycles=0, record=0B = 0B data + 0B inval + 0B record_id)\n"
          ++ ascii "                                            flags=0x0000, record_id=0\n" ++ (10 ∷ []) ++ ascii "Block links:\n"
          ++ ascii "  ##HD @ 0x0000000040 (Header Block (abs_time=0 ns, tz=0 min))\n"
          ++ ascii "    first_dg_addr                -> 0x00000000a8 (##DG)\n" ++ ascii "    file_history_addr            -> (null)\n"
          ++ ascii "    channel_tree_addr            -> (null)\n" ++ ascii "    first_attachment_addr        -> (null)\n"
          ++ ascii "    first_event_addr             -> (null)\n" ++ ascii "    comment_addr                 -> (null)\n"
          ++ ascii "  ##DG @ 0x00000000a8 (Data Group #0 (record_id_len=0))\n"
          ++ ascii "    next_dg_addr                 -> 0x00000000e8 (##DG)\n"
          ++ ascii "    first_cg_addr                -> 0x0000000128 (##CG)\n" ++ ascii "    data_block_addr              -> (null)\n"
          ++ ascii "    comment_addr                 -> (null)\n" ++ ascii "  ##DG @ 0x00000000e8 (Data Group #1 (record_id_len=0))\n"
          ++ ascii "    next_dg_addr                 -> (null)\n" ++ ascii "    first_cg_addr                -> 0x0000000478 (##CG)\n"
          ++ ascii "    data_block_addr              -> (null)\n" ++ ascii "    comment_addr                 -> (null)\n"
          ++ ascii "  ##CG @ 0x0000000128 (Channel Group #0 (cycles=0, record=0B = 0B data + 0B inval + 0B record_id))\n"
          ++ ascii "    next_cg_addr                 -> 0x0000000190 (##CG)\n"
          ++ ascii "    first_ch_addr                -> 0x00000001f8 (##CN)\n" ++ ascii "    acq_name_addr                -> (null)\n"
          ++ ascii "    acq_source_addr              -> (null)\n" ++ ascii "    first_sample_reduction_addr  -> (null)\n"
          ++ ascii "    comment_addr                 -> (null)\n"
          ++ ascii "  ##CG @ 0x0000000190 (Channel Group #1 (cycles=0, record=0B = 0B data + 0B inval + 0B record_id))\n"
          ++ ascii "    next_cg_addr                 -> (null)\n" ++ ascii "    first_ch_addr                -> 0x00000003d8 (##CN)\n"
          ++ ascii "    acq_name_addr                -> (null)\n" ++ ascii "    acq_source_addr              -> (null)\n"
          ++ ascii "    first_sample_reduction_addr  -> (null)\n" ++ ascii "    comment_addr                 -> (null)\n"
          ++ ascii "  ##CN @ 0x00000001f8 (Channel #0 '' (ch_type=0, sync=0, dtype=UnsignedIntegerLE, 0b @ byte=0 bit=0))\n"
          ++ ascii "    next_ch_addr                 -> 0x0000000298 (##CN)\n" ++ ascii "    component_addr               -> (null)\n"
          ++ ascii "    name_addr                    -> (null)\n" ++ ascii "    source_addr                  -> (null)\n"
          ++ ascii "    conversion_addr              -> (null)\n" ++ ascii "    data                         -> (null)\n"
          ++ ascii "    unit_addr                    -> (null)\n" ++ ascii "    comment_addr                 -> (null)\n"
          ++ ascii "  ##CN @ 0x0000000298 (Channel #1 '' (ch_type=0, sync=0, dtype=UnsignedIntegerLE, 0b @ byte=0 bit=0))\n"
          ++ ascii "    next_ch_addr                 -> 0x0000000338 (##CN)\n" ++ ascii "    component_addr               -> (null)\n"
          ++ ascii "    name_addr                    -> (null)\n" ++ ascii "    source_addr                  -> (null)\n"
          ++ ascii "    conversion_addr              -> (null)\n" ++ ascii "    data                         -> (null)\n"
          ++ ascii "    unit_addr                    -> (null)\n" ++ ascii "    comment_addr                 -> (null)\n"
          ++ ascii "  ##CN @ 0x0000000338 (Channel #2 '' (ch_type=0, sync=0, dtype=UnsignedIntegerLE, 0b @ byte=0 bit=0))\n"
          ++ ascii "    next_ch_addr                 -> (null)\n" ++ ascii "    component_addr               -> (null)\n"
          ++ ascii "    name_addr                    -> (null)\n" ++ ascii "    source_addr                  -> (null)\n"
          ++ ascii "    conversion_addr              -> (null)\n" ++ ascii "    data                         -> (null)\n"
          ++ ascii "    unit_addr                    -> (null)\n" ++ ascii "    comment_addr                 -> (null)\n"
          ++ ascii "  ##CN @ 0x00000003d8 (Channel #3 '' (ch_type=0, sync=0, dtype=UnsignedIntegerLE, 0b @ byte=0 bit=0))\n"
          ++ ascii "    next_ch_addr                 -> (null)\n" ++ ascii "    component_addr               -> (null)\n"
          ++ ascii "    name_addr                    -> (null)\n" ++ ascii "    source_addr                  -> (null)\n"
          ++ ascii "    conversion_addr              -> (null)\n" ++ ascii "    data                         -> (null)\n"
          ++ ascii "    unit_addr                    -> (null)\n" ++ ascii "    comment_addr                 -> (null)\n"
          ++ ascii "  ##CG @ 0x0000000478 (Channel Group #2 (cycles=0, record=0B = 0B data + 0B inval + 0B record_id))\n"
          ++ ascii "    next_cg_addr                 -> (null)\n" ++ ascii "    first_ch_addr                -> (null)\n"
          ++ ascii "    acq_name_addr                -> (null)\n" ++ ascii "    acq_source_addr              -> (null)\n"
          ++ ascii "    first_sample_reduction_addr  -> (null)\n" ++ ascii "    comment_addr                 -> (null)\n";
    }
unfolding computed recording visited links gaps blocks
text = refl

clear : clear_list_exit (lent 11 154 128 0 58 24) recording
    ≡ record {
      answer = ok (counts 11 11 64 0 24);
      visited = visited;
      blocks = blocks;
      links = links;
      gaps = gaps;
      scratch = replicate 58 0;
      out =
          67 ∷ 76 ∷ 82 ∷ 1 ∷ 0 ∷ 0 ∷ 0 ∷ 0 ∷ 224 ∷ 4 ∷ 0 ∷ 0 ∷ 0 ∷ 0 ∷ 0 ∷ 0 ∷ 0 ∷ 0 ∷ 0 ∷ 0 ∷ 0 ∷ 0 ∷ 0 ∷ 0 ∷ [];
    }
unfolding computed recording visited links gaps blocks
clear = refl

path : path_exit 824 (lent 11 154 128 0 0 6) recording
    ≡ record {
      answer = ok (counts 11 11 64 0 6);
      visited = visited;
      blocks = blocks;
      links = links;
      gaps = gaps;
      scratch = replicate 0 0;
      out =
          64 ∷ 168 ∷ 296 ∷ 504 ∷ 664 ∷ 824 ∷ [];
    }
unfolding computed recording visited links gaps blocks
path = refl

path_short : path_exit 824 (lent 11 154 128 0 0 5) recording
    ≡ record { answer = err (refusal 13 0 5 6); visited = replicate 11 0; blocks = replicate 154 0; links = replicate 128 0; gaps = replicate 0 0; scratch = replicate 0 0; out = replicate 5 0 }
unfolding computed recording
path_short = refl

marked_blocks : List ℕ
marked_blocks =
    0 ∷ 64 ∷ 64 ∷ 1145643811 ∷ 1 ∷ 0 ∷ 0 ∷ 0 ∷ 0 ∷ 0 ∷ 0 ∷ 1 ∷ 0 ∷ 0 ∷ 64 ∷ 168 ∷ 104 ∷ 1145578275 ∷ 2 ∷ 0 ∷ 0 ∷ 6 ∷ 0 ∷ 0 ∷ 0 ∷ 1 ∷ 0 ∷ 0
    ∷ 168 ∷ 232 ∷ 64 ∷ 1195647779 ∷ 3 ∷ 0 ∷ 6 ∷ 4 ∷ 0 ∷ 0 ∷ 0 ∷ 1 ∷ 64 ∷ 0 ∷ 232 ∷ 296 ∷ 64 ∷ 1195647779 ∷ 3 ∷ 1 ∷ 54 ∷ 4 ∷ 0 ∷ 0 ∷ 0 ∷ 1
    ∷ 168 ∷ 0 ∷ 296 ∷ 400 ∷ 104 ∷ 1195582243 ∷ 4 ∷ 0 ∷ 10 ∷ 6 ∷ 0 ∷ 0 ∷ 0 ∷ 1 ∷ 168 ∷ 1 ∷ 400 ∷ 504 ∷ 104 ∷ 1195582243 ∷ 4 ∷ 1 ∷ 40 ∷ 6 ∷ 0
    ∷ 0 ∷ 0 ∷ 1 ∷ 296 ∷ 0 ∷ 504 ∷ 664 ∷ 160 ∷ 1313022755 ∷ 5 ∷ 0 ∷ 16 ∷ 8 ∷ 0 ∷ 0 ∷ 0 ∷ 1 ∷ 296 ∷ 1 ∷ 664 ∷ 824 ∷ 160 ∷ 1313022755 ∷ 5 ∷ 1
    ∷ 24 ∷ 8 ∷ 0 ∷ 0 ∷ 0 ∷ 1 ∷ 504 ∷ 0 ∷ 824 ∷ 984 ∷ 160 ∷ 1313022755 ∷ 5 ∷ 2 ∷ 32 ∷ 8 ∷ 0 ∷ 0 ∷ 0 ∷ 1 ∷ 664 ∷ 0 ∷ 984 ∷ 1144 ∷ 160
    ∷ 1313022755 ∷ 5 ∷ 3 ∷ 46 ∷ 8 ∷ 0 ∷ 0 ∷ 0 ∷ 1 ∷ 400 ∷ 1 ∷ 1144 ∷ 1248 ∷ 104 ∷ 1195582243 ∷ 4 ∷ 2 ∷ 58 ∷ 6 ∷ 0 ∷ 0 ∷ 0 ∷ 1 ∷ 232 ∷ 1 ∷ []

tree : to_tree_exit (lent 11 154 128 0 0 1181) recording
    ≡ record {
      answer = ok (counts 11 11 64 0 1181);
      visited = visited;
      blocks = marked_blocks;
      links = links;
      gaps = gaps;
      scratch = replicate 0 0;
      out =
          ascii "##ID @ 0x0000000000 [Identification: version='4.10', program='console1']\n"
          ++ ascii "##HD @ 0x0000000040 [Header Block (abs_time=0 ns, tz=0 min)]\n"
          ++ ascii "`-- (first_dg_addr) ##DG @ 0x00000000a8 [Data Group #0 (record_id_len=0)]\n"
          ++ ascii "    |-- (next_dg_addr) ##DG @ 0x00000000e8 [Data Group #1 (record_id_len=0)]\n"
          ++ ascii "    |   `-- (first_cg_addr) ##CG @ 0x0000000478 [Channel Group #2 (cycles=0, record=0B = 0B data + 0B inval + 0B record_id)]\n"
          ++ ascii "    `-- (first_cg_addr) ##CG @ 0x0000000128 [Channel Group #0 (cycles=0, record=0B = 0B data + 0B inval + 0B record_id)]\n"
          ++ ascii "        |-- (next_cg_addr) ##CG @ 0x0000000190 [Channel Group #1 (cycles=0, record=0B = 0B data + 0B inval + 0B record_id)]\n"
          ++ ascii "        |   `-- (first_ch_addr) ##CN @ 0x00000003d8 [Channel #3 '' (ch_type=0, sync=0, dtype=UnsignedIntegerLE, 0b @ byte=0 bit=0)]\n"
          ++ ascii "        `-- (first_ch_addr) ##CN @ 0x00000001f8 [Channel #0 '' (ch_type=0, sync=0, dtype=UnsignedIntegerLE, 0b @ byte=0 bit=0)]\n"
          ++ ascii "            `-- (next_ch_addr) ##CN @ 0x0000000298 [Channel #1 '' (ch_type=0, sync=0, dtype=UnsignedIntegerLE, 0b @ byte=0 bit=0)]\n"
          ++ ascii "                `-- (next_ch_addr) ##CN @ 0x0000000338 [Channel #2 '' (ch_type=0, sync=0, dtype=UnsignedIntegerLE, 0b @ byte=0 bit=0)]\n";
    }
unfolding computed recording visited links gaps marked_blocks
tree = refl
