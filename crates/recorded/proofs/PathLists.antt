-- path_lists.mf4, as the Rust answers it; links behind rows, path and clear list as the scripts draw them.
use mathlib.Core.Path.{◌≡◌, refl}
use mathlib.Core.List.{List, [], ◌∷◌, ◌++◌}
use Prim.Native.Nat.{ℕ}
use lib.ListN.{replicate}
use Rattle.fmt.specs.Text.{ascii}
use Rattle.mdf4.specs.Act.{ok, err, refusal}
use Rattle.mdf4.specs.Answers.{layout_exit, to_text_exit, to_tree_exit, path_exit, clear_list_exit}
use Rattle.mdf4.proofs.Computed.{computed}
use Rattle.mdf4.proofs.Recordings.{lent, counts}

recording : List ℕ
recording =
    ascii "MDF     4.10    console1" ++ replicate 4 0 ++ (154 ∷ 1 ∷ []) ++ replicate 34 0 ++ ascii "##HD" ++ replicate 4 0 ++ (104 ∷ [])
    ++ replicate 7 0 ++ (6 ∷ []) ++ replicate 7 0 ++ (168 ∷ []) ++ replicate 79 0 ++ ascii "##DG" ++ replicate 4 0 ++ (64 ∷ [])
    ++ replicate 7 0 ++ (4 ∷ []) ++ replicate 23 0 ++ (232 ∷ []) ++ replicate 23 0 ++ ascii "##DL" ++ replicate 4 0 ++ (72 ∷ [])
    ++ replicate 7 0 ++ (4 ∷ []) ++ replicate 7 0 ++ (184 ∷ 1 ∷ []) ++ replicate 6 0 ++ (48 ∷ 1 ∷ []) ++ replicate 6 0 ++ (72 ∷ 1 ∷ [])
    ++ replicate 6 0 ++ (160 ∷ 1 ∷ []) ++ replicate 6 0 ++ (1 ∷ []) ++ replicate 15 0 ++ ascii "##DT" ++ replicate 4 0 ++ (24 ∷ [])
    ++ replicate 15 0 ++ ascii "##DL" ++ replicate 4 0 ++ (64 ∷ []) ++ replicate 7 0 ++ (3 ∷ []) ++ replicate 7 0 ++ (16 ∷ 2 ∷ [])
    ++ replicate 6 0 ++ (136 ∷ 1 ∷ []) ++ replicate 6 0 ++ (48 ∷ 1 ∷ []) ++ replicate 6 0 ++ (1 ∷ []) ++ replicate 15 0 ++ ascii "##DT"
    ++ replicate 4 0 ++ (24 ∷ []) ++ replicate 15 0 ++ ascii "##DT" ++ replicate 4 0 ++ (24 ∷ []) ++ replicate 15 0 ++ ascii "##DL"
    ++ replicate 4 0 ++ (64 ∷ []) ++ replicate 7 0 ++ (3 ∷ []) ++ replicate 15 0 ++ (248 ∷ 1 ∷ []) ++ replicate 6 0 ++ (136 ∷ 1 ∷ [])
    ++ replicate 6 0 ++ (1 ∷ []) ++ replicate 15 0 ++ ascii "##DT" ++ replicate 4 0 ++ (24 ∷ []) ++ replicate 15 0 ++ ascii "##DL"
    ++ replicate 4 0 ++ (56 ∷ []) ++ replicate 7 0 ++ (2 ∷ []) ++ replicate 15 0 ++ (72 ∷ 2 ∷ []) ++ replicate 6 0 ++ (1 ∷ [])
    ++ replicate 15 0 ++ ascii "##DT" ++ replicate 4 0 ++ (24 ∷ []) ++ replicate 15 0

visited : List ℕ
visited =
    0 ∷ 64 ∷ 168 ∷ 232 ∷ 304 ∷ 328 ∷ 392 ∷ 528 ∷ 584 ∷ 416 ∷ 440 ∷ 504 ∷ []

links : List ℕ
links =
    168 ∷ 1195647780 ∷ 0 ∷ 0 ∷ 0 ∷ 0 ∷ 0 ∷ 0 ∷ 0 ∷ 0 ∷ 0 ∷ 0 ∷ 0 ∷ 0 ∷ 0 ∷ 0 ∷ 232 ∷ 1279533860 ∷ 0 ∷ 0 ∷ 440 ∷ 1279533860 ∷ 304
    ∷ 1413751588 ∷ 328 ∷ 1279533860 ∷ 416 ∷ 1413751588 ∷ 528 ∷ 1279533860 ∷ 392 ∷ 1413751588 ∷ 304 ∷ 1413751588 ∷ 0 ∷ 0 ∷ 584 ∷ 1413751588
    ∷ 0 ∷ 0 ∷ 504 ∷ 1413751588 ∷ 392 ∷ 1413751588 ∷ []

gaps : List ℕ
gaps =
    []

blocks : List ℕ
blocks =
    0 ∷ 64 ∷ 64 ∷ 1145643811 ∷ 1 ∷ 0 ∷ 0 ∷ 0 ∷ 0 ∷ 0 ∷ 0 ∷ 0 ∷ 0 ∷ 0 ∷ 64 ∷ 168 ∷ 104 ∷ 1145578275 ∷ 2 ∷ 0 ∷ 0 ∷ 6 ∷ 0 ∷ 0 ∷ 0 ∷ 0 ∷ 0 ∷ 0
    ∷ 168 ∷ 232 ∷ 64 ∷ 1195647779 ∷ 3 ∷ 0 ∷ 6 ∷ 4 ∷ 0 ∷ 0 ∷ 0 ∷ 0 ∷ 64 ∷ 0 ∷ 232 ∷ 304 ∷ 72 ∷ 1279533859 ∷ 11 ∷ 0 ∷ 10 ∷ 4 ∷ 0 ∷ 0 ∷ 0 ∷ 0
    ∷ 168 ∷ 2 ∷ 304 ∷ 328 ∷ 24 ∷ 1413751587 ∷ 9 ∷ 0 ∷ 0 ∷ 0 ∷ 0 ∷ 0 ∷ 0 ∷ 0 ∷ 232 ∷ 1 ∷ 328 ∷ 392 ∷ 64 ∷ 1279533859 ∷ 11 ∷ 0 ∷ 14 ∷ 3 ∷ 0
    ∷ 0 ∷ 0 ∷ 0 ∷ 232 ∷ 2 ∷ 392 ∷ 416 ∷ 24 ∷ 1413751587 ∷ 9 ∷ 0 ∷ 0 ∷ 0 ∷ 0 ∷ 0 ∷ 0 ∷ 0 ∷ 328 ∷ 1 ∷ 416 ∷ 440 ∷ 24 ∷ 1413751587 ∷ 9 ∷ 0 ∷ 0
    ∷ 0 ∷ 0 ∷ 0 ∷ 0 ∷ 0 ∷ 232 ∷ 3 ∷ 440 ∷ 504 ∷ 64 ∷ 1279533859 ∷ 11 ∷ 0 ∷ 19 ∷ 3 ∷ 0 ∷ 0 ∷ 0 ∷ 0 ∷ 232 ∷ 0 ∷ 504 ∷ 528 ∷ 24 ∷ 1413751587
    ∷ 9 ∷ 0 ∷ 0 ∷ 0 ∷ 0 ∷ 0 ∷ 0 ∷ 0 ∷ 440 ∷ 1 ∷ 528 ∷ 584 ∷ 56 ∷ 1279533859 ∷ 11 ∷ 0 ∷ 17 ∷ 2 ∷ 0 ∷ 0 ∷ 0 ∷ 0 ∷ 328 ∷ 0 ∷ 584 ∷ 608 ∷ 24
    ∷ 1413751587 ∷ 9 ∷ 0 ∷ 0 ∷ 0 ∷ 0 ∷ 0 ∷ 0 ∷ 0 ∷ 528 ∷ 1 ∷ []

layout : layout_exit (lent 12 168 44 0 0 0) recording
    ≡ record {
      answer = ok (counts 12 12 22 0 0);
      visited = visited;
      blocks = blocks;
      links = links;
      gaps = gaps;
      scratch = replicate 0 0;
      out =
          [];
    }
unfolding computed recording visited links gaps blocks
layout = refl

text : to_text_exit (lent 12 168 44 0 0 3589) recording
    ≡ record {
      answer = ok (counts 12 12 22 0 3589);
      visited = visited;
      blocks = blocks;
      links = links;
      gaps = gaps;
      scratch = replicate 0 0;
      out =
          ascii "MDF block layout (file size: 608 bytes / 0x260)\n" ++ (10 ∷ []) ++ ascii "Blocks (12 total), sorted by offset:\n"
          ++ ascii "offset        end                 size  type    description\n"
          ++ ascii "------------  ------------  ----------  ------  ------------------------------------------------------------\n"
          ++ ascii "0x0000000000  0x0000000040          64  ##ID    Identification: version='4.10', program='console1'\n"
          ++ ascii "                                            version_number=410, standard_unfinalized_flags=0x0000, custom_unfinalized_flags=0x0000\n"
          ++ ascii "0x0000000040  0x00000000a8         104  ##HD    Header Block (abs_time=0 ns, tz=0 min)\n"
          ++ ascii "                                            flags=0x00, time_flags=0x00, time_quality=0x00\n"
          ++ ascii "0x00000000a8  0x00000000e8          64  ##DG    Data Group #0 (record_id_len=0)\n"
          ++ ascii "0x00000000e8  0x0000000130          72  ##DL    Data List (0 fragments, equal_length=0B)\n"
          ++ ascii "                                            flags=0x01\n"
          ++ ascii "0x0000000130  0x0000000148          24  ##DT    Data block (0 payload bytes)\n"
          ++ ascii "                                            payload=0 bytes (header=24 bytes)\n"
          ++ ascii "0x0000000148  0x0000000188          64  ##DL    Data List (0 fragments, equal_length=0B)\n"
          ++ ascii "                                            flags=0x01\n"
          ++ ascii "0x0000000188  0x00000001a0          24  ##DT    Data block (0 payload bytes)\n"
          ++ ascii "                                            payload=0 bytes (header=24 bytes)\n"
          ++ ascii "0x00000001a0  0x00000001b8          24  ##DT    Data block (0 payload bytes)\n"
          ++ ascii "                                            payload=0 bytes (header=24 bytes)\n"
          ++ ascii "0x00000001b8  0x00000001f8          64  ##DL    Data List (0 fragments, equal_length=0B)\n"
          ++ ascii "                                            flags=0x01\n"
          ++ ascii "0x00000001f8  0x0000000210          24  ##DT    Data block (0 payload bytes)\n"
          ++ ascii "                                            payload=0 bytes (header=24 bytes)\n"
          ++ ascii "0x0000000210  0x0000000248          56  ##DL    Data List (0 fragments, equal_length=0B)\n"
          ++ ascii "                                            flags=0x01\n"
          ++ ascii "0x0000000248  0x0000000260          24  ##DT    Data block (0 payload bytes)\n"
          ++ ascii "                                            payload=0 bytes (header=24 bytes)\n" ++ (10 ∷ []) ++ ascii "Block links:\n"
          ++ ascii "  ##HD @ 0x0000000040 (Header Block (abs_time=0 ns, tz=0 min))\n"
          ++ ascii "    first_dg_addr                -> 0x00000000a8 (##DG)\n" ++ ascii "    file_history_addr            -> (null)\n"
          ++ ascii "    channel_tree_addr            -> (null)\n" ++ ascii "    first_attachment_addr        -> (null)\n"
          ++ ascii "    first_event_addr             -> (null)\n" ++ ascii "    comment_addr                 -> (null)\n"
          ++ ascii "  ##DG @ 0x00000000a8 (Data Group #0 (record_id_len=0))\n" ++ ascii "    next_dg_addr                 -> (null)\n"
          ++ ascii "    first_cg_addr                -> (null)\n" ++ ascii "    data_block_addr              -> 0x00000000e8 (##DL)\n"
          ++ ascii "    comment_addr                 -> (null)\n" ++ ascii "  ##DL @ 0x00000000e8 (Data List (0 fragments, equal_length=0B))\n"
          ++ ascii "    next                         -> 0x00000001b8 (##DL)\n"
          ++ ascii "    data_links[0]                -> 0x0000000130 (##DT)\n"
          ++ ascii "    data_links[1]                -> 0x0000000148 (##DL)\n"
          ++ ascii "    data_links[2]                -> 0x00000001a0 (##DT)\n"
          ++ ascii "  ##DL @ 0x0000000148 (Data List (0 fragments, equal_length=0B))\n"
          ++ ascii "    next                         -> 0x0000000210 (##DL)\n"
          ++ ascii "    data_links[0]                -> 0x0000000188 (##DT)\n"
          ++ ascii "    data_links[1]                -> 0x0000000130 (##DT)\n"
          ++ ascii "  ##DL @ 0x00000001b8 (Data List (0 fragments, equal_length=0B))\n" ++ ascii "    next                         -> (null)\n"
          ++ ascii "    data_links[0]                -> 0x00000001f8 (##DT)\n"
          ++ ascii "    data_links[1]                -> 0x0000000188 (##DT)\n"
          ++ ascii "  ##DL @ 0x0000000210 (Data List (0 fragments, equal_length=0B))\n" ++ ascii "    next                         -> (null)\n"
          ++ ascii "    data_links[0]                -> 0x0000000248 (##DT)\n";
    }
unfolding computed recording visited links gaps blocks
text = refl

clear : clear_list_exit (lent 12 168 44 0 72 24) recording
    ≡ record {
      answer = ok (counts 12 12 22 0 24);
      visited = visited;
      blocks = blocks;
      links = links;
      gaps = gaps;
      scratch = replicate 72 0;
      out =
          67 ∷ 76 ∷ 82 ∷ 1 ∷ 0 ∷ 0 ∷ 0 ∷ 0 ∷ 96 ∷ 2 ∷ 0 ∷ 0 ∷ 0 ∷ 0 ∷ 0 ∷ 0 ∷ 0 ∷ 0 ∷ 0 ∷ 0 ∷ 0 ∷ 0 ∷ 0 ∷ 0 ∷ [];
    }
unfolding computed recording visited links gaps blocks
clear = refl

path : path_exit 584 (lent 12 168 44 0 0 6) recording
    ≡ record {
      answer = ok (counts 12 12 22 0 6);
      visited = visited;
      blocks = blocks;
      links = links;
      gaps = gaps;
      scratch = replicate 0 0;
      out =
          64 ∷ 168 ∷ 232 ∷ 328 ∷ 528 ∷ 584 ∷ [];
    }
unfolding computed recording visited links gaps blocks
path = refl

path_short : path_exit 584 (lent 12 168 44 0 0 5) recording
    ≡ record { answer = err (refusal 13 0 5 6); visited = replicate 12 0; blocks = replicate 168 0; links = replicate 44 0; gaps = replicate 0 0; scratch = replicate 0 0; out = replicate 5 0 }
unfolding computed recording
path_short = refl

marked_blocks : List ℕ
marked_blocks =
    0 ∷ 64 ∷ 64 ∷ 1145643811 ∷ 1 ∷ 0 ∷ 0 ∷ 0 ∷ 0 ∷ 0 ∷ 0 ∷ 1 ∷ 0 ∷ 0 ∷ 64 ∷ 168 ∷ 104 ∷ 1145578275 ∷ 2 ∷ 0 ∷ 0 ∷ 6 ∷ 0 ∷ 0 ∷ 0 ∷ 1 ∷ 0 ∷ 0
    ∷ 168 ∷ 232 ∷ 64 ∷ 1195647779 ∷ 3 ∷ 0 ∷ 6 ∷ 4 ∷ 0 ∷ 0 ∷ 0 ∷ 1 ∷ 64 ∷ 0 ∷ 232 ∷ 304 ∷ 72 ∷ 1279533859 ∷ 11 ∷ 0 ∷ 10 ∷ 4 ∷ 0 ∷ 0 ∷ 0 ∷ 1
    ∷ 168 ∷ 2 ∷ 304 ∷ 328 ∷ 24 ∷ 1413751587 ∷ 9 ∷ 0 ∷ 0 ∷ 0 ∷ 0 ∷ 0 ∷ 0 ∷ 1 ∷ 232 ∷ 1 ∷ 328 ∷ 392 ∷ 64 ∷ 1279533859 ∷ 11 ∷ 0 ∷ 14 ∷ 3 ∷ 0
    ∷ 0 ∷ 0 ∷ 1 ∷ 232 ∷ 2 ∷ 392 ∷ 416 ∷ 24 ∷ 1413751587 ∷ 9 ∷ 0 ∷ 0 ∷ 0 ∷ 0 ∷ 0 ∷ 0 ∷ 1 ∷ 328 ∷ 1 ∷ 416 ∷ 440 ∷ 24 ∷ 1413751587 ∷ 9 ∷ 0 ∷ 0
    ∷ 0 ∷ 0 ∷ 0 ∷ 0 ∷ 1 ∷ 232 ∷ 3 ∷ 440 ∷ 504 ∷ 64 ∷ 1279533859 ∷ 11 ∷ 0 ∷ 19 ∷ 3 ∷ 0 ∷ 0 ∷ 0 ∷ 1 ∷ 232 ∷ 0 ∷ 504 ∷ 528 ∷ 24 ∷ 1413751587
    ∷ 9 ∷ 0 ∷ 0 ∷ 0 ∷ 0 ∷ 0 ∷ 0 ∷ 1 ∷ 440 ∷ 1 ∷ 528 ∷ 584 ∷ 56 ∷ 1279533859 ∷ 11 ∷ 0 ∷ 17 ∷ 2 ∷ 0 ∷ 0 ∷ 0 ∷ 1 ∷ 328 ∷ 0 ∷ 584 ∷ 608 ∷ 24
    ∷ 1413751587 ∷ 9 ∷ 0 ∷ 0 ∷ 0 ∷ 0 ∷ 0 ∷ 0 ∷ 1 ∷ 528 ∷ 1 ∷ []

tree : to_tree_exit (lent 12 168 44 0 0 1167) recording
    ≡ record {
      answer = ok (counts 12 12 22 0 1167);
      visited = visited;
      blocks = marked_blocks;
      links = links;
      gaps = gaps;
      scratch = replicate 0 0;
      out =
          ascii "##ID @ 0x0000000000 [Identification: version='4.10', program='console1']\n"
          ++ ascii "##HD @ 0x0000000040 [Header Block (abs_time=0 ns, tz=0 min)]\n"
          ++ ascii "`-- (first_dg_addr) ##DG @ 0x00000000a8 [Data Group #0 (record_id_len=0)]\n"
          ++ ascii "    `-- (data_block_addr) ##DL @ 0x00000000e8 [Data List (0 fragments, equal_length=0B)]\n"
          ++ ascii "        |-- (next) ##DL @ 0x00000001b8 [Data List (0 fragments, equal_length=0B)]\n"
          ++ ascii "        |   |-- (data_links[0]) ##DT @ 0x00000001f8 [Data block (0 payload bytes)]\n"
          ++ ascii "        |   `-- (data_links[1]) ##DT @ 0x0000000188 [Data block (0 payload bytes)]\n"
          ++ ascii "        |-- (data_links[0]) ##DT @ 0x0000000130 [Data block (0 payload bytes)]\n"
          ++ ascii "        |-- (data_links[1]) ##DL @ 0x0000000148 [Data List (0 fragments, equal_length=0B)]\n"
          ++ ascii "        |   |-- (next) ##DL @ 0x0000000210 [Data List (0 fragments, equal_length=0B)]\n"
          ++ ascii "        |   |   `-- (data_links[0]) ##DT @ 0x0000000248 [Data block (0 payload bytes)]\n"
          ++ ascii "        |   |-- (data_links[0]) ##DT @ 0x0000000188 [Data block (0 payload bytes)] (already listed)\n"
          ++ ascii "        |   `-- (data_links[1]) ##DT @ 0x0000000130 [Data block (0 payload bytes)] (already listed)\n"
          ++ ascii "        `-- (data_links[2]) ##DT @ 0x00000001a0 [Data block (0 payload bytes)]\n";
    }
unfolding computed recording visited links gaps marked_blocks
tree = refl
