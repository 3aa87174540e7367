-- record_words_visited_group.mf4, as the Rust answers it; links behind rows, path and clear list as the scripts draw them.
use mathlib.Core.Path.{◌≡◌, refl}
use mathlib.Core.List.{List, [], ◌∷◌, ◌++◌}
use Prim.Native.Nat.{ℕ}
use lib.ListN.{replicate}
use Rattle.fmt.specs.Text.{ascii}
use Rattle.mdf4.specs.Act.{ok, err, refusal}
use Rattle.mdf4.specs.Answers.{layout_exit, to_text_exit, to_tree_exit, path_exit, clear_list_exit}
use Rattle.mdf4.proofs.Computed.{computed}
use Rattle.mdf4.proofs.Recordings.{lent, counts}

recording : List ℕ
recording =
    ascii "MDF     4.10    console1" ++ replicate 4 0 ++ (154 ∷ 1 ∷ []) ++ replicate 34 0 ++ ascii "##HD" ++ replicate 4 0 ++ (104 ∷ [])
    ++ replicate 7 0 ++ (6 ∷ []) ++ replicate 7 0 ++ (168 ∷ []) ++ replicate 79 0 ++ ascii "##DG" ++ replicate 4 0 ++ (64 ∷ [])
    ++ replicate 7 0 ++ (4 ∷ []) ++ replicate 7 0 ++ (232 ∷ []) ++ replicate 7 0 ++ (40 ∷ 1 ∷ []) ++ replicate 22 0 ++ (1 ∷ [])
    ++ replicate 7 0 ++ ascii "##DG" ++ replicate 4 0 ++ (64 ∷ []) ++ replicate 7 0 ++ (4 ∷ []) ++ replicate 15 0 ++ (40 ∷ 1 ∷ [])
    ++ replicate 6 0 ++ (144 ∷ 1 ∷ []) ++ replicate 14 0 ++ (3 ∷ []) ++ replicate 7 0 ++ ascii "##CG" ++ replicate 4 0 ++ (104 ∷ [])
    ++ replicate 7 0 ++ (6 ∷ []) ++ replicate 79 0 ++ (4 ∷ 0 ∷ 0 ∷ 0 ∷ 1 ∷ 0 ∷ 0 ∷ 0 ∷ []) ++ ascii "##DT" ++ replicate 4 0 ++ (32 ∷ [])
    ++ replicate 23 0

visited : List ℕ
visited =
    0 ∷ 64 ∷ 168 ∷ 296 ∷ 232 ∷ 400 ∷ []

links : List ℕ
links =
    168 ∷ 1195647780 ∷ 0 ∷ 0 ∷ 0 ∷ 0 ∷ 0 ∷ 0 ∷ 0 ∷ 0 ∷ 0 ∷ 0 ∷ 232 ∷ 1195647780 ∷ 296 ∷ 1195582244 ∷ 0 ∷ 0 ∷ 0 ∷ 0 ∷ 0 ∷ 0 ∷ 0 ∷ 0 ∷ 0 ∷ 0
    ∷ 0 ∷ 0 ∷ 0 ∷ 0 ∷ 0 ∷ 0 ∷ 0 ∷ 0 ∷ 296 ∷ 1195582244 ∷ 400 ∷ 1413751588 ∷ 0 ∷ 0 ∷ []

gaps : List ℕ
gaps =
    []

blocks : List ℕ
blocks =
    0 ∷ 64 ∷ 64 ∷ 1145643811 ∷ 1 ∷ 0 ∷ 0 ∷ 0 ∷ 0 ∷ 0 ∷ 0 ∷ 0 ∷ 0 ∷ 0 ∷ 64 ∷ 168 ∷ 104 ∷ 1145578275 ∷ 2 ∷ 0 ∷ 0 ∷ 6 ∷ 0 ∷ 0 ∷ 0 ∷ 0 ∷ 0 ∷ 0
    ∷ 168 ∷ 232 ∷ 64 ∷ 1195647779 ∷ 3 ∷ 0 ∷ 6 ∷ 4 ∷ 0 ∷ 0 ∷ 0 ∷ 0 ∷ 64 ∷ 0 ∷ 232 ∷ 296 ∷ 64 ∷ 1195647779 ∷ 3 ∷ 1 ∷ 16 ∷ 4 ∷ 0 ∷ 0 ∷ 0 ∷ 0
    ∷ 168 ∷ 0 ∷ 296 ∷ 400 ∷ 104 ∷ 1195582243 ∷ 4 ∷ 0 ∷ 10 ∷ 6 ∷ 6 ∷ 1 ∷ 1 ∷ 0 ∷ 168 ∷ 1 ∷ 400 ∷ 432 ∷ 32 ∷ 1413751587 ∷ 9 ∷ 0 ∷ 0 ∷ 0 ∷ 0
    ∷ 0 ∷ 3 ∷ 0 ∷ 232 ∷ 2 ∷ []

layout : layout_exit (lent 6 84 40 0 0 0) recording
    ≡ record {
      answer = ok (counts 6 6 20 0 0);
      visited = visited;
      blocks = blocks;
      links = links;
      gaps = gaps;
      scratch = replicate 0 0;
      out =
          [];
    }
unfolding computed recording visited links gaps blocks
layout = refl

text : to_text_exit (lent 6 84 40 0 0 2383) recording
    ≡ record {
      answer = ok (counts 6 6 20 0 2383);
      visited = visited;
      blocks = blocks;
      links = links;
      gaps = gaps;
      scratch = replicate 0 0;
      out =
          ascii "MDF block layout (file size: 432 bytes / 0x1b0)\n" ++ (10 ∷ []) ++ ascii "Blocks (6 total), sorted by offset:\n"
          ++ ascii "offset        end                 size  type    description\n"
          ++ ascii "------------  ------------  ----------  ------  ------------------------------------------------------------\n"
          ++ ascii "0x0000000000  0x0000000040          64  ##ID    Identification: version='4.10', program='console1'\n"
          ++ ascii "                                            version_number=410, standard_unfinalized_flags=0x0000, custom_unfinalized_flags=0x0000\n"
          ++ ascii "0x0000000040  0x00000000a8         104  ##HD    Header Block (abs_time=0 ns, tz=0 min)\n"
          ++ ascii "                                            flags=0x00, time_flags=0x00, time_quality=0x00\n"
          ++ ascii "0x00000000a8  0x00000000e8          64  ##DG    Data Group #0 (record_id_len=1)\n"
          ++ ascii "0x00000000e8  0x0000000128          64  ##DG    Data Group #1 (record_id_len=3)\n"
          ++ ascii "0x0000000128  0x0000000190         104  ##CG    Channel Group #0 (cycles=0, record=6B = 4B data + 1B inval + 1B record_id)\n"
          ++ ascii "                                            flags=0x0000, record_id=0\n"
          ++ ascii "0x0000000190  0x00000001b0          32  ##DT    Data block (8 payload bytes)\n"
          ++ ascii "                                            payload=8 bytes (header=24 bytes)\n" ++ (10 ∷ []) ++ ascii "Block links:\n"
          ++ ascii "  ##HD @ 0x0000000040 (Header Block (abs_time=0 ns, tz=0 min))\n"
          ++ ascii "    first_dg_addr                -> 0x00000000a8 (##DG)\n" ++ ascii "    file_history_addr            -> (null)\n"
          ++ ascii "    channel_tree_addr            -> (null)\n" ++ ascii "    first_attachment_addr        -> (null)\n"
          ++ ascii "    first_event_addr             -> (null)\n" ++ ascii "    comment_addr                 -> (null)\n"
          ++ ascii "  ##DG @ 0x00000000a8 (Data Group #0 (record_id_len=1))\n"
          ++ ascii "    next_dg_addr                 -> 0x00000000e8 (##DG)\n"
          ++ ascii "    first_cg_addr                -> 0x0000000128 (##CG)\n" ++ ascii "    data_block_addr              -> (null)\n"
          ++ ascii "    comment_addr                 -> (null)\n" ++ ascii "  ##DG @ 0x00000000e8 (Data Group #1 (record_id_len=3))\n"
          ++ ascii "    next_dg_addr                 -> (null)\n" ++ ascii "    first_cg_addr                -> 0x0000000128 (##CG)\n"
          ++ ascii "    data_block_addr              -> 0x0000000190 (##DT)\n" ++ ascii "    comment_addr                 -> (null)\n"
          ++ ascii "  ##CG @ 0x0000000128 (Channel Group #0 (cycles=0, record=6B = 4B data + 1B inval + 1B record_id))\n"
          ++ ascii "    next_cg_addr                 -> (null)\n" ++ ascii "    first_ch_addr                -> (null)\n"
          ++ ascii "    acq_name_addr                -> (null)\n" ++ ascii "    acq_source_addr              -> (null)\n"
          ++ ascii "    first_sample_reduction_addr  -> (null)\n" ++ ascii "    comment_addr                 -> (null)\n";
    }
unfolding computed recording visited links gaps blocks
text = refl

clear : clear_list_exit (lent 6 84 40 0 32 24) recording
    ≡ record {
      answer = ok (counts 6 6 20 0 24);
      visited = visited;
      blocks = blocks;
      links = links;
      gaps = gaps;
      scratch = replicate 32 0;
      out =
          67 ∷ 76 ∷ 82 ∷ 1 ∷ 0 ∷ 0 ∷ 0 ∷ 0 ∷ 176 ∷ 1 ∷ 0 ∷ 0 ∷ 0 ∷ 0 ∷ 0 ∷ 0 ∷ 0 ∷ 0 ∷ 0 ∷ 0 ∷ 0 ∷ 0 ∷ 0 ∷ 0 ∷ [];
    }
unfolding computed recording visited links gaps blocks
clear = refl

path : path_exit 400 (lent 6 84 40 0 0 4) recording
    ≡ record {
      answer = ok (counts 6 6 20 0 4);
      visited = visited;
      blocks = blocks;
      links = links;
      gaps = gaps;
      scratch = replicate 0 0;
      out =
          64 ∷ 168 ∷ 232 ∷ 400 ∷ [];
    }
unfolding computed recording visited links gaps blocks
path = refl

path_short : path_exit 400 (lent 6 84 40 0 0 3) recording
    ≡ record { answer = err (refusal 13 0 3 4); visited = replicate 6 0; blocks = replicate 84 0; links = replicate 40 0; gaps = replicate 0 0; scratch = replicate 0 0; out = replicate 3 0 }
unfolding computed recording
path_short = refl

marked_blocks : List ℕ
marked_blocks =
    0 ∷ 64 ∷ 64 ∷ 1145643811 ∷ 1 ∷ 0 ∷ 0 ∷ 0 ∷ 0 ∷ 0 ∷ 0 ∷ 1 ∷ 0 ∷ 0 ∷ 64 ∷ 168 ∷ 104 ∷ 1145578275 ∷ 2 ∷ 0 ∷ 0 ∷ 6 ∷ 0 ∷ 0 ∷ 0 ∷ 1 ∷ 0 ∷ 0
    ∷ 168 ∷ 232 ∷ 64 ∷ 1195647779 ∷ 3 ∷ 0 ∷ 6 ∷ 4 ∷ 0 ∷ 0 ∷ 0 ∷ 1 ∷ 64 ∷ 0 ∷ 232 ∷ 296 ∷ 64 ∷ 1195647779 ∷ 3 ∷ 1 ∷ 16 ∷ 4 ∷ 0 ∷ 0 ∷ 0 ∷ 1
    ∷ 168 ∷ 0 ∷ 296 ∷ 400 ∷ 104 ∷ 1195582243 ∷ 4 ∷ 0 ∷ 10 ∷ 6 ∷ 6 ∷ 1 ∷ 1 ∷ 1 ∷ 168 ∷ 1 ∷ 400 ∷ 432 ∷ 32 ∷ 1413751587 ∷ 9 ∷ 0 ∷ 0 ∷ 0 ∷ 0
    ∷ 0 ∷ 3 ∷ 1 ∷ 232 ∷ 2 ∷ []

tree : to_tree_exit (lent 6 84 40 0 0 629) recording
    ≡ record {
      answer = ok (counts 6 6 20 0 629);
      visited = visited;
      blocks = marked_blocks;
      links = links;
      gaps = gaps;
      scratch = replicate 0 0;
      out =
          ascii "##ID @ 0x0000000000 [Identification: version='4.10', program='console1']\n"
          ++ ascii "##HD @ 0x0000000040 [Header Block (abs_time=0 ns, tz=0 min)]\n"
          ++ ascii "`-- (first_dg_addr) ##DG @ 0x00000000a8 [Data Group #0 (record_id_len=1)]\n"
          ++ ascii "    |-- (next_dg_addr) ##DG @ 0x00000000e8 [Data Group #1 (record_id_len=3)]\n"
          ++ ascii "    |   |-- (first_cg_addr) ##CG @ 0x0000000128 [Channel Group #0 (cycles=0, record=6B = 4B data + 1B inval + 1B record_id)]\n"
          ++ ascii "    |   `-- (data_block_addr) ##DT @ 0x0000000190 [Data block (8 payload bytes)]\n"
          ++ ascii "    `-- (first_cg_addr) ##CG @ 0x0000000128 [Channel Group #0 (cycles=0, record=6B = 4B data + 1B inval + 1B record_id)] (already listed)\n";
    }
unfolding computed recording visited links gaps marked_blocks
tree = refl
