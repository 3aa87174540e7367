-- rand_00333.mf4, as the Rust answers it; links behind rows, path and clear list as the scripts draw them.
use mathlib.Core.Path.{◌≡◌, refl}
use mathlib.Core.List.{List, [], ◌∷◌, ◌++◌}
use Prim.Native.Nat.{ℕ}
use lib.ListN.{replicate}
use Rattle.fmt.specs.Text.{ascii}
use Rattle.mdf4.specs.Act.{ok, err, refusal}
use Rattle.mdf4.specs.Answers.{layout_exit, to_text_exit, to_tree_exit, path_exit, clear_list_exit}
use Rattle.mdf4.proofs.Computed.{computed}
use Rattle.mdf4.proofs.Recordings.{lent, counts}

recording : List ℕ
recording =
    ascii "MDF     4.10" ++ replicate 4 0 ++ ascii "mf4-rs  " ++ replicate 40 0 ++ ascii "##HD" ++ replicate 4 0 ++ (104 ∷ [])
    ++ replicate 7 0 ++ (6 ∷ []) ++ replicate 7 0 ++ (80 ∷ 1 ∷ []) ++ replicate 30 0 ++ (168 ∷ []) ++ replicate 7 0 ++ (224 ∷ [])
    ++ replicate 7 0 ++ (151 ∷ 49 ∷ 30 ∷ 171 ∷ 56 ∷ 140 ∷ 76 ∷ 53 ∷ []) ++ replicate 4 0 ++ (167 ∷ 165 ∷ 26 ∷ []) ++ replicate 17 0
    ++ ascii "##FH" ++ replicate 4 0 ++ (56 ∷ []) ++ replicate 7 0 ++ (2 ∷ []) ++ replicate 39 0 ++ ascii "##FH" ++ replicate 4 0
    ++ (1 ∷ []) ++ replicate 63 0 ++ ascii "##RD" ++ replicate 4 0 ++ (25 ∷ []) ++ replicate 15 0 ++ (182 ∷ []) ++ replicate 15 0
    ++ ascii "##DG" ++ replicate 4 0 ++ (64 ∷ []) ++ replicate 7 0 ++ (4 ∷ []) ++ replicate 7 0 ++ (64 ∷ []) ++ replicate 15 0
    ++ (152 ∷ 1 ∷ []) ++ replicate 30 0 ++ ascii "##DL" ++ replicate 4 0 ++ (244 ∷ 1 ∷ []) ++ replicate 6 0 ++ (2 ∷ []) ++ replicate 7 0
    ++ (209 ∷ 1 ∷ []) ++ replicate 6 0 ++ (40 ∷ 1 ∷ []) ++ replicate 6 0 ++ (254 ∷ 0 ∷ 0 ∷ 0 ∷ 1 ∷ []) ++ replicate 12 0 ++ ascii "##DT"
    ++ replicate 4 0 ++ (24 ∷ []) ++ replicate 39 0

visited : List ℕ
visited =
    0 ∷ 64 ∷ 224 ∷ 336 ∷ 408 ∷ 296 ∷ 465 ∷ []

links : List ℕ
links =
    336 ∷ 1195647780 ∷ 0 ∷ 0 ∷ 0 ∷ 0 ∷ 0 ∷ 0 ∷ 168 ∷ 1212556068 ∷ 224 ∷ 1212556068 ∷ 64 ∷ 1145578276 ∷ 0 ∷ 0 ∷ 408 ∷ 1279533860 ∷ 0 ∷ 0
    ∷ 465 ∷ 1413751588 ∷ 296 ∷ 1146233636 ∷ []

gaps : List ℕ
gaps =
    168 ∷ 224 ∷ 225 ∷ 296 ∷ 321 ∷ 336 ∷ 400 ∷ 408 ∷ []

blocks : List ℕ
blocks =
    0 ∷ 64 ∷ 64 ∷ 1145643811 ∷ 1 ∷ 0 ∷ 0 ∷ 0 ∷ 0 ∷ 0 ∷ 0 ∷ 0 ∷ 0 ∷ 0 ∷ 64 ∷ 168 ∷ 104 ∷ 1145578275 ∷ 2 ∷ 0 ∷ 0 ∷ 6 ∷ 0 ∷ 0 ∷ 0 ∷ 0 ∷ 0 ∷ 0
    ∷ 224 ∷ 225 ∷ 1 ∷ 1212556067 ∷ 12 ∷ 0 ∷ 0 ∷ 0 ∷ 0 ∷ 0 ∷ 0 ∷ 0 ∷ 64 ∷ 5 ∷ 296 ∷ 321 ∷ 25 ∷ 1146233635 ∷ 9 ∷ 0 ∷ 0 ∷ 0 ∷ 0 ∷ 0 ∷ 0 ∷ 0
    ∷ 408 ∷ 1 ∷ 336 ∷ 400 ∷ 64 ∷ 1195647779 ∷ 3 ∷ 0 ∷ 6 ∷ 4 ∷ 0 ∷ 0 ∷ 0 ∷ 0 ∷ 64 ∷ 0 ∷ 408 ∷ 908 ∷ 500 ∷ 1279533859 ∷ 11 ∷ 0 ∷ 10 ∷ 2 ∷ 0
    ∷ 0 ∷ 0 ∷ 0 ∷ 336 ∷ 2 ∷ 465 ∷ 489 ∷ 24 ∷ 1413751587 ∷ 9 ∷ 0 ∷ 0 ∷ 0 ∷ 0 ∷ 0 ∷ 0 ∷ 0 ∷ 408 ∷ 0 ∷ []

layout : layout_exit (lent 7 98 24 8 0 0) recording
    ≡ record {
      answer = ok (counts 7 7 12 4 0);
      visited = visited;
      blocks = blocks;
      links = links;
      gaps = gaps;
      scratch = replicate 0 0;
      out =
          [];
    }
unfolding computed recording visited links gaps blocks
layout = refl

text : to_text_exit (lent 7 98 24 8 0 2291) recording
    ≡ record {
      answer = ok (counts 7 7 12 4 2291);
      visited = visited;
      blocks = blocks;
      links = links;
      gaps = gaps;
      scratch = replicate 0 0;
      out =
          ascii "MDF block layout (file size: 513 bytes / 0x201)\n" ++ (10 ∷ []) ++ ascii "Blocks (7 total), sorted by offset:\n"
          ++ ascii "offset        end                 size  type    description\n"
          ++ ascii "------------  ------------  ----------  ------  ------------------------------------------------------------\n"
          ++ ascii "0x0000000000  0x0000000040          64  ##ID    Identification: version='4.10" ++ replicate 4 0
          ++ ascii "', program='mf4-rs'\n"
          ++ ascii "                                            version_number=0, standard_unfinalized_flags=0x0000, custom_unfinalized_flags=0x0000\n"
          ++ ascii "0x0000000040  0x00000000a8         104  ##HD    Header Block (abs_time=3840598757257130391 ns, tz=0 min)\n"
          ++ ascii "                                            flags=0x1a, time_flags=0xa7, time_quality=0xa5\n"
          ++ ascii "0x00000000e0  0x00000000e1           1  ##FH    Unknown block (not walked further)\n"
          ++ ascii "0x0000000128  0x0000000141          25  ##RD    Data block (1 payload bytes)\n"
          ++ ascii "                                            payload=1 bytes (header=24 bytes)\n"
          ++ ascii "0x0000000150  0x0000000190          64  ##DG    Data Group #0 (record_id_len=0)\n"
          ++ ascii "0x0000000198  0x000000038c         500  ##DL    Data List (1 fragments)\n"
          ++ ascii "                                            flags=0xfe\n"
          ++ ascii "0x00000001d1  0x00000001e9          24  ##DT    Data block (0 payload bytes)\n"
          ++ ascii "                                            payload=0 bytes (header=24 bytes)\n" ++ (10 ∷ [])
          ++ ascii "Unreferenced byte ranges (gaps):\n" ++ ascii "  0x00000000a8 .. 0x00000000e0  (56 bytes)\n"
          ++ ascii "  0x00000000e1 .. 0x0000000128  (71 bytes)\n" ++ ascii "  0x0000000141 .. 0x0000000150  (15 bytes)\n"
          ++ ascii "  0x0000000190 .. 0x0000000198  (8 bytes)\n" ++ (10 ∷ []) ++ ascii "Block links:\n"
          ++ ascii "  ##HD @ 0x0000000040 (Header Block (abs_time=3840598757257130391 ns, tz=0 min))\n"
          ++ ascii "    first_dg_addr                -> 0x0000000150 (##DG)\n" ++ ascii "    file_history_addr            -> (null)\n"
          ++ ascii "    channel_tree_addr            -> (null)\n" ++ ascii "    first_attachment_addr        -> (null)\n"
          ++ ascii "    first_event_addr             -> 0x00000000a8 (##FH)\n"
          ++ ascii "    comment_addr                 -> 0x00000000e0 (##FH)\n"
          ++ ascii "  ##DG @ 0x0000000150 (Data Group #0 (record_id_len=0))\n"
          ++ ascii "    next_dg_addr                 -> 0x0000000040 (##HD)\n" ++ ascii "    first_cg_addr                -> (null)\n"
          ++ ascii "    data_block_addr              -> 0x0000000198 (##DL)\n" ++ ascii "    comment_addr                 -> (null)\n"
          ++ ascii "  ##DL @ 0x0000000198 (Data List (1 fragments))\n" ++ ascii "    next                         -> 0x00000001d1 (##DT)\n"
          ++ ascii "    data_links[0]                -> 0x0000000128 (##RD)\n";
    }
unfolding computed recording visited links gaps blocks
text = refl

clear : clear_list_exit (lent 7 98 24 8 42 72) recording
    ≡ record {
      answer = ok (counts 7 7 12 4 72);
      visited = visited;
      blocks = blocks;
      links = links;
      gaps = gaps;
      scratch = replicate 42 0;
      out =
          67 ∷ 76 ∷ 82 ∷ 1 ∷ 0 ∷ 0 ∷ 0 ∷ 0 ∷ 1 ∷ 2 ∷ 0 ∷ 0 ∷ 0 ∷ 0 ∷ 0 ∷ 0 ∷ 3 ∷ 0 ∷ 0 ∷ 0 ∷ 0 ∷ 0 ∷ 0 ∷ 0 ∷ 248 ∷ 0 ∷ 0 ∷ 0 ∷ 0 ∷ 0 ∷ 0 ∷ 0 ∷ 40
          ∷ 1 ∷ 0 ∷ 0 ∷ 0 ∷ 0 ∷ 0 ∷ 0 ∷ 65 ∷ 1 ∷ 0 ∷ 0 ∷ 0 ∷ 0 ∷ 0 ∷ 0 ∷ 80 ∷ 1 ∷ 0 ∷ 0 ∷ 0 ∷ 0 ∷ 0 ∷ 0 ∷ 144 ∷ 1 ∷ 0 ∷ 0 ∷ 0 ∷ 0 ∷ 0 ∷ 0 ∷ 152
          ∷ 1 ∷ 0 ∷ 0 ∷ 0 ∷ 0 ∷ 0 ∷ 0 ∷ [];
    }
unfolding computed recording visited links gaps blocks
clear = refl

path : path_exit 296 (lent 7 98 24 8 0 4) recording
    ≡ record {
      answer = ok (counts 7 7 12 4 4);
      visited = visited;
      blocks = blocks;
      links = links;
      gaps = gaps;
      scratch = replicate 0 0;
      out =
          64 ∷ 336 ∷ 408 ∷ 296 ∷ [];
    }
unfolding computed recording visited links gaps blocks
path = refl

path_short : path_exit 296 (lent 7 98 24 8 0 3) recording
    ≡ record { answer = err (refusal 13 0 3 4); visited = replicate 7 0; blocks = replicate 98 0; links = replicate 24 0; gaps = replicate 8 0; scratch = replicate 0 0; out = replicate 3 0 }
unfolding computed recording
path_short = refl

marked_blocks : List ℕ
marked_blocks =
    0 ∷ 64 ∷ 64 ∷ 1145643811 ∷ 1 ∷ 0 ∷ 0 ∷ 0 ∷ 0 ∷ 0 ∷ 0 ∷ 1 ∷ 0 ∷ 0 ∷ 64 ∷ 168 ∷ 104 ∷ 1145578275 ∷ 2 ∷ 0 ∷ 0 ∷ 6 ∷ 0 ∷ 0 ∷ 0 ∷ 1 ∷ 0 ∷ 0
    ∷ 224 ∷ 225 ∷ 1 ∷ 1212556067 ∷ 12 ∷ 0 ∷ 0 ∷ 0 ∷ 0 ∷ 0 ∷ 0 ∷ 1 ∷ 64 ∷ 5 ∷ 296 ∷ 321 ∷ 25 ∷ 1146233635 ∷ 9 ∷ 0 ∷ 0 ∷ 0 ∷ 0 ∷ 0 ∷ 0 ∷ 1
    ∷ 408 ∷ 1 ∷ 336 ∷ 400 ∷ 64 ∷ 1195647779 ∷ 3 ∷ 0 ∷ 6 ∷ 4 ∷ 0 ∷ 0 ∷ 0 ∷ 1 ∷ 64 ∷ 0 ∷ 408 ∷ 908 ∷ 500 ∷ 1279533859 ∷ 11 ∷ 0 ∷ 10 ∷ 2 ∷ 0
    ∷ 0 ∷ 0 ∷ 1 ∷ 336 ∷ 2 ∷ 465 ∷ 489 ∷ 24 ∷ 1413751587 ∷ 9 ∷ 0 ∷ 0 ∷ 0 ∷ 0 ∷ 0 ∷ 0 ∷ 1 ∷ 408 ∷ 0 ∷ []

tree : to_tree_exit (lent 7 98 24 8 0 644) recording
    ≡ record {
      answer = ok (counts 7 7 12 4 644);
      visited = visited;
      blocks = marked_blocks;
      links = links;
      gaps = gaps;
      scratch = replicate 0 0;
      out =
          ascii "##ID @ 0x0000000000 [Identification: version='4.10" ++ replicate 4 0 ++ ascii "', program='mf4-rs']\n"
          ++ ascii "##HD @ 0x0000000040 [Header Block (abs_time=3840598757257130391 ns, tz=0 min)]\n"
          ++ ascii "|-- (first_dg_addr) ##DG @ 0x0000000150 [Data Group #0 (record_id_len=0)]\n"
          ++ ascii "|   |-- (next_dg_addr) ##HD @ 0x0000000040 [Header Block (abs_time=3840598757257130391 ns, tz=0 min)] (already listed)\n"
          ++ ascii "|   `-- (data_block_addr) ##DL @ 0x0000000198 [Data List (1 fragments)]\n"
          ++ ascii "|       |-- (next) ##DT @ 0x00000001d1 [Data block (0 payload bytes)]\n"
          ++ ascii "|       `-- (data_links[0]) ##RD @ 0x0000000128 [Data block (1 payload bytes)]\n"
          ++ ascii "`-- (comment_addr) ##FH @ 0x00000000e0 [Unknown block (not walked further)]\n";
    }
unfolding computed recording visited links gaps marked_blocks
tree = refl
