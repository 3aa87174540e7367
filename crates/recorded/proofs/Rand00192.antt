-- rand_00192.mf4, as the Rust answers it; links behind rows, path and clear list as the scripts draw them.
use mathlib.Core.Path.{◌≡◌, refl}
use mathlib.Core.List.{List, [], ◌∷◌, ◌++◌}
use Prim.Native.Nat.{ℕ}
use lib.ListN.{replicate}
use Rattle.fmt.specs.Text.{ascii}
use Rattle.mdf4.specs.Act.{ok, err, refusal}
use Rattle.mdf4.specs.Answers.{layout_exit, to_text_exit, to_tree_exit, path_exit, clear_list_exit}
use Rattle.mdf4.proofs.Computed.{computed}
use Rattle.mdf4.proofs.Recordings.{lent, counts}

recording : List ℕ
recording =
    ascii "MDF     5       " ++ replicate 48 0 ++ ascii "##HD" ++ replicate 4 0 ++ (104 ∷ []) ++ replicate 7 0 ++ (6 ∷ []) ++ replicate 7 0
    ++ (16 ∷ 1 ∷ []) ++ replicate 30 0 ++ (217 ∷ 1 ∷ []) ++ replicate 14 0
    ++ (64 ∷ 165 ∷ 99 ∷ 234 ∷ 177 ∷ 19 ∷ 58 ∷ 72 ∷ 255 ∷ 127 ∷ 0 ∷ 0 ∷ 70 ∷ 59 ∷ 97 ∷ []) ++ replicate 30 0 ++ ascii "##SD" ++ replicate 4 0
    ++ (84 ∷ []) ++ replicate 15 0 ++ (182 ∷ 163 ∷ 223 ∷ 126 ∷ 254 ∷ 8 ∷ 117 ∷ 66 ∷ 171 ∷ []) ++ ascii "h=-k"
    ++ (237 ∷ 234 ∷ 62 ∷ 108 ∷ 17 ∷ 135 ∷ 112 ∷ 136 ∷ 146 ∷ 201 ∷ 184 ∷ 245 ∷ 33 ∷ 194 ∷ 103 ∷ 236 ∷ 248 ∷ 177 ∷ 175 ∷ 26 ∷ 245 ∷ 241 ∷ 146 ∷ 91 ∷ 206 ∷ 61 ∷ 149 ∷ [])
    ++ ascii "$Z a" ++ (133 ∷ 124 ∷ 119 ∷ 30 ∷ 30 ∷ 126 ∷ 6 ∷ 252 ∷ 165 ∷ 137 ∷ 41 ∷ 6 ∷ 110 ∷ 161 ∷ 172 ∷ 246 ∷ []) ++ replicate 7 0
    ++ ascii "##DG" ++ replicate 4 0 ++ (64 ∷ []) ++ replicate 7 0 ++ (4 ∷ []) ++ replicate 7 0 ++ (56 ∷ 2 ∷ []) ++ replicate 14 0
    ++ (213 ∷ 2 ∷ []) ++ replicate 14 0 ++ (2 ∷ []) ++ replicate 8 0 ++ ascii "##RV" ++ replicate 4 0 ++ (25 ∷ []) ++ replicate 15 0
    ++ (79 ∷ []) ++ replicate 19 0 ++ ascii "##MD" ++ replicate 4 0 ++ (86 ∷ []) ++ replicate 15 0
    ++ (65 ∷ 143 ∷ 130 ∷ 160 ∷ 224 ∷ 237 ∷ 244 ∷ 195 ∷ 237 ∷ 0 ∷ 240 ∷ 244 ∷ 160 ∷ 224 ∷ 194 ∷ 143 ∷ 130 ∷ 224 ∷ 98 ∷ 65 ∷ 224 ∷ 255 ∷ 32 ∷ 194 ∷ 130 ∷ 65 ∷ 224 ∷ 98 ∷ 255 ∷ 65 ∷ 159 ∷ 65 ∷ 240 ∷ 224 ∷ 224 ∷ 224 ∷ 159 ∷ 159 ∷ 32 ∷ 226 ∷ 65 ∷ 98 ∷ 226 ∷ 144 ∷ 65 ∷ 143 ∷ 128 ∷ 194 ∷ 160 ∷ 160 ∷ 195 ∷ 32 ∷ 0 ∷ 144 ∷ 255 ∷ 195 ∷ 32 ∷ 194 ∷ 98 ∷ 130 ∷ 98 ∷ 128 ∷ [])
    ++ replicate 6 0 ++ ascii "##FH" ++ replicate 4 0 ++ (56 ∷ []) ++ replicate 7 0 ++ (2 ∷ []) ++ replicate 12 0 ++ ascii "##DG"
    ++ replicate 4 0 ++ (64 ∷ []) ++ replicate 7 0 ++ (4 ∷ []) ++ replicate 23 0 ++ (48 ∷ 3 ∷ []) ++ replicate 24 0 ++ ascii "##DG"
    ++ replicate 4 0 ++ (64 ∷ []) ++ replicate 7 0 ++ (4 ∷ []) ++ replicate 7 0 ++ (246 ∷ 1 ∷ []) ++ replicate 22 0 ++ (125 ∷ 1 ∷ [])
    ++ replicate 6 0 ++ (1 ∷ []) ++ replicate 47 0 ++ ascii "##HL" ++ replicate 4 0 ++ (35 ∷ []) ++ replicate 44 0 ++ ascii "##DL"
    ++ replicate 4 0 ++ (88 ∷ []) ++ replicate 7 0 ++ (4 ∷ []) ++ replicate 15 0 ++ (25 ∷ 2 ∷ []) ++ replicate 6 0 ++ (181 ∷ [])
    ++ replicate 7 0 ++ (160 ∷ 2 ∷ []) ++ replicate 6 0 ++ (2 ∷ 0 ∷ 0 ∷ 0 ∷ 3 ∷ []) ++ replicate 30 0 ++ ascii "##DL" ++ replicate 4 0
    ++ (48 ∷ []) ++ replicate 7 0 ++ (1 ∷ []) ++ replicate 7 0 ++ (81 ∷ 1 ∷ []) ++ replicate 6 0 ++ (254 ∷ 0 ∷ 0 ∷ 0 ∷ 1 ∷ [])
    ++ replicate 11 0

visited : List ℕ
visited =
    0 ∷ 64 ∷ 272 ∷ 725 ∷ 537 ∷ 181 ∷ 672 ∷ 568 ∷ 381 ∷ 502 ∷ 816 ∷ 337 ∷ []

links : List ℕ
links =
    272 ∷ 1195647780 ∷ 0 ∷ 0 ∷ 0 ∷ 0 ∷ 0 ∷ 0 ∷ 473 ∷ 1212556068 ∷ 0 ∷ 0 ∷ 568 ∷ 1195647780 ∷ 0 ∷ 0 ∷ 725 ∷ 1279533860 ∷ 0 ∷ 0 ∷ 0 ∷ 0 ∷ 537
    ∷ 1 ∷ 181 ∷ 1146299172 ∷ 672 ∷ 1279796004 ∷ 502 ∷ 1195647780 ∷ 0 ∷ 0 ∷ 0 ∷ 0 ∷ 381 ∷ 1145905956 ∷ 0 ∷ 0 ∷ 0 ∷ 0 ∷ 816 ∷ 1279533860 ∷ 0
    ∷ 0 ∷ 337 ∷ 1448223524 ∷ []

gaps : List ℕ
gaps =
    168 ∷ 181 ∷ 265 ∷ 272 ∷ 336 ∷ 337 ∷ 362 ∷ 381 ∷ 467 ∷ 502 ∷ 566 ∷ 568 ∷ 632 ∷ 672 ∷ 707 ∷ 725 ∷ 813 ∷ 816 ∷ []

blocks : List ℕ
blocks =
    0 ∷ 64 ∷ 64 ∷ 1145643811 ∷ 1 ∷ 0 ∷ 0 ∷ 0 ∷ 0 ∷ 0 ∷ 0 ∷ 0 ∷ 0 ∷ 0 ∷ 64 ∷ 168 ∷ 104 ∷ 1145578275 ∷ 2 ∷ 0 ∷ 0 ∷ 6 ∷ 0 ∷ 0 ∷ 0 ∷ 0 ∷ 0 ∷ 0
    ∷ 181 ∷ 265 ∷ 84 ∷ 1146299171 ∷ 10 ∷ 0 ∷ 0 ∷ 0 ∷ 0 ∷ 0 ∷ 0 ∷ 0 ∷ 725 ∷ 2 ∷ 272 ∷ 336 ∷ 64 ∷ 1195647779 ∷ 3 ∷ 0 ∷ 6 ∷ 4 ∷ 0 ∷ 0 ∷ 0 ∷ 0
    ∷ 64 ∷ 0 ∷ 337 ∷ 362 ∷ 25 ∷ 1448223523 ∷ 9 ∷ 0 ∷ 0 ∷ 0 ∷ 0 ∷ 0 ∷ 0 ∷ 0 ∷ 816 ∷ 0 ∷ 381 ∷ 467 ∷ 86 ∷ 1145905955 ∷ 8 ∷ 0 ∷ 0 ∷ 0 ∷ 0 ∷ 0
    ∷ 0 ∷ 0 ∷ 568 ∷ 3 ∷ 502 ∷ 566 ∷ 64 ∷ 1195647779 ∷ 3 ∷ 2 ∷ 18 ∷ 4 ∷ 0 ∷ 0 ∷ 0 ∷ 0 ∷ 568 ∷ 0 ∷ 537 ∷ 537 ∷ 0 ∷ 0 ∷ 13 ∷ 0 ∷ 0 ∷ 0 ∷ 0 ∷ 0
    ∷ 0 ∷ 0 ∷ 725 ∷ 1 ∷ 568 ∷ 632 ∷ 64 ∷ 1195647779 ∷ 3 ∷ 1 ∷ 14 ∷ 4 ∷ 0 ∷ 0 ∷ 0 ∷ 0 ∷ 272 ∷ 0 ∷ 672 ∷ 707 ∷ 35 ∷ 1279796003 ∷ 13 ∷ 0 ∷ 0
    ∷ 0 ∷ 0 ∷ 0 ∷ 0 ∷ 0 ∷ 725 ∷ 3 ∷ 725 ∷ 813 ∷ 88 ∷ 1279533859 ∷ 11 ∷ 0 ∷ 10 ∷ 4 ∷ 0 ∷ 0 ∷ 0 ∷ 0 ∷ 272 ∷ 2 ∷ 816 ∷ 864 ∷ 48 ∷ 1279533859
    ∷ 11 ∷ 0 ∷ 22 ∷ 1 ∷ 0 ∷ 0 ∷ 0 ∷ 0 ∷ 502 ∷ 2 ∷ []

layout : layout_exit (lent 12 168 46 18 0 0) recording
    ≡ record {
      answer = ok (counts 12 12 23 9 0);
      visited = visited;
      blocks = blocks;
      links = links;
      gaps = gaps;
      scratch = replicate 0 0;
      out =
          [];
    }
unfolding computed recording visited links gaps blocks
layout = refl

text : to_text_exit (lent 12 168 46 18 0 3659) recording
    ≡ record {
      answer = ok (counts 12 12 23 9 3659);
      visited = visited;
      blocks = blocks;
      links = links;
      gaps = gaps;
      scratch = replicate 0 0;
      out =
          ascii "MDF block layout (file size: 864 bytes / 0x360)\n" ++ (10 ∷ []) ++ ascii "Blocks (12 total), sorted by offset:\n"
          ++ ascii "offset        end                 size  type    description\n"
          ++ ascii "------------  ------------  ----------  ------  ------------------------------------------------------------\n"
          ++ ascii "0x0000000000  0x0000000040          64  ##ID    Identification: version='5', program='" ++ replicate 8 0 ++ ascii "'\n"
          ++ ascii "                                            version_number=0, standard_unfinalized_flags=0x0000, custom_unfinalized_flags=0x0000\n"
          ++ ascii "0x0000000040  0x00000000a8         104  ##HD    Header Block (abs_time=5204493974242567488 ns, tz=32767 min)\n"
          ++ ascii "                                            flags=0x61, time_flags=0x46, time_quality=0x3b\n"
          ++ ascii "0x00000000b5  0x0000000109          84  ##SD    Signal data (VLSD stream, 60 payload bytes)\n"
          ++ ascii "0x0000000110  0x0000000150          64  ##DG    Data Group #0 (record_id_len=2)\n"
          ++ ascii "0x0000000151  0x000000016a          25  ##RV    Data block (1 payload bytes)\n"
          ++ ascii "                                            payload=1 bytes (header=24 bytes)\n"
          ++ ascii "0x000000017d  0x00000001d3          86  ##MD    Metadata (XML, 135 chars): A"
          ++ (239 ∷ 191 ∷ 189 ∷ 239 ∷ 191 ∷ 189 ∷ 239 ∷ 191 ∷ 189 ∷ 239 ∷ 191 ∷ 189 ∷ 239 ∷ 191 ∷ 189 ∷ 239 ∷ 191 ∷ 189 ∷ 239 ∷ 191 ∷ 189 ∷ 239 ∷ 191 ∷ 189 ∷ [])
          ++ replicate 1 0
          ++ (239 ∷ 191 ∷ 189 ∷ 239 ∷ 191 ∷ 189 ∷ 239 ∷ 191 ∷ 189 ∷ 239 ∷ 191 ∷ 189 ∷ 194 ∷ 143 ∷ 239 ∷ 191 ∷ 189 ∷ 239 ∷ 191 ∷ 189 ∷ [])
          ++ ascii "bA" ++ (239 ∷ 191 ∷ 189 ∷ 239 ∷ 191 ∷ 189 ∷ []) ++ ascii " " ++ (194 ∷ 130 ∷ []) ++ ascii "A" ++ (239 ∷ 191 ∷ 189 ∷ [])
          ++ ascii "b" ++ (239 ∷ 191 ∷ 189 ∷ []) ++ ascii "A" ++ (239 ∷ 191 ∷ 189 ∷ []) ++ ascii "A"
          ++ (239 ∷ 191 ∷ 189 ∷ 239 ∷ 191 ∷ 189 ∷ 239 ∷ 191 ∷ 189 ∷ 239 ∷ 191 ∷ 189 ∷ 239 ∷ 191 ∷ 189 ∷ 239 ∷ 191 ∷ 189 ∷ []) ++ ascii " "
          ++ (239 ∷ 191 ∷ 189 ∷ []) ++ ascii "Ab" ++ (239 ∷ 191 ∷ 189 ∷ []) ++ ascii "A"
          ++ (239 ∷ 191 ∷ 189 ∷ 239 ∷ 191 ∷ 189 ∷ 194 ∷ 160 ∷ 239 ∷ 191 ∷ 189 ∷ 239 ∷ 191 ∷ 189 ∷ []) ++ ascii " ...\n"
          ++ ascii "0x00000001f6  0x0000000236          64  ##DG    Data Group #2 (record_id_len=0)\n"
          ++ ascii "0x0000000219  0x0000000219           0  " ++ replicate 4 0 ++ ascii "    Unknown data block\n"
          ++ ascii "0x0000000238  0x0000000278          64  ##DG    Data Group #1 (record_id_len=1)\n"
          ++ ascii "0x00000002a0  0x00000002c3          35  ##HL    Unknown data block\n"
          ++ ascii "0x00000002d5  0x000000032d          88  ##DL    Data List (3 fragments)\n"
          ++ ascii "                                            flags=0x02\n"
          ++ ascii "0x0000000330  0x0000000360          48  ##DL    Data List (1 fragments)\n"
          ++ ascii "                                            flags=0xfe\n" ++ (10 ∷ []) ++ ascii "Unreferenced byte ranges (gaps):\n"
          ++ ascii "  0x00000000a8 .. 0x00000000b5  (13 bytes)\n" ++ ascii "  0x0000000109 .. 0x0000000110  (7 bytes)\n"
          ++ ascii "  0x0000000150 .. 0x0000000151  (1 bytes)\n" ++ ascii "  0x000000016a .. 0x000000017d  (19 bytes)\n"
          ++ ascii "  0x00000001d3 .. 0x00000001f6  (35 bytes)\n" ++ ascii "  0x0000000236 .. 0x0000000238  (2 bytes)\n"
          ++ ascii "  0x0000000278 .. 0x00000002a0  (40 bytes)\n" ++ ascii "  0x00000002c3 .. 0x00000002d5  (18 bytes)\n"
          ++ ascii "  0x000000032d .. 0x0000000330  (3 bytes)\n" ++ (10 ∷ []) ++ ascii "Block links:\n"
          ++ ascii "  ##HD @ 0x0000000040 (Header Block (abs_time=5204493974242567488 ns, tz=32767 min))\n"
          ++ ascii "    first_dg_addr                -> 0x0000000110 (##DG)\n" ++ ascii "    file_history_addr            -> (null)\n"
          ++ ascii "    channel_tree_addr            -> (null)\n" ++ ascii "    first_attachment_addr        -> (null)\n"
          ++ ascii "    first_event_addr             -> 0x00000001d9 (##FH)\n" ++ ascii "    comment_addr                 -> (null)\n"
          ++ ascii "  ##DG @ 0x0000000110 (Data Group #0 (record_id_len=2))\n"
          ++ ascii "    next_dg_addr                 -> 0x0000000238 (##DG)\n" ++ ascii "    first_cg_addr                -> (null)\n"
          ++ ascii "    data_block_addr              -> 0x00000002d5 (##DL)\n" ++ ascii "    comment_addr                 -> (null)\n"
          ++ ascii "  ##DG @ 0x00000001f6 (Data Group #2 (record_id_len=0))\n" ++ ascii "    next_dg_addr                 -> (null)\n"
          ++ ascii "    first_cg_addr                -> (null)\n" ++ ascii "    data_block_addr              -> 0x0000000330 (##DL)\n"
          ++ ascii "    comment_addr                 -> (null)\n" ++ ascii "  ##DG @ 0x0000000238 (Data Group #1 (record_id_len=1))\n"
          ++ ascii "    next_dg_addr                 -> 0x00000001f6 (##DG)\n" ++ ascii "    first_cg_addr                -> (null)\n"
          ++ ascii "    data_block_addr              -> (null)\n" ++ ascii "    comment_addr                 -> 0x000000017d (##MD)\n"
          ++ ascii "  ##DL @ 0x00000002d5 (Data List (3 fragments))\n" ++ ascii "    next                         -> (null)\n"
          ++ ascii "    data_links[0]                -> 0x0000000219 (" ++ replicate 4 0 ++ ascii ")\n"
          ++ ascii "    data_links[1]                -> 0x00000000b5 (##SD)\n"
          ++ ascii "    data_links[2]                -> 0x00000002a0 (##HL)\n" ++ ascii "  ##DL @ 0x0000000330 (Data List (1 fragments))\n"
          ++ ascii "    next                         -> 0x0000000151 (##RV)\n";
    }
unfolding computed recording visited links gaps blocks
text = refl

clear : clear_list_exit (lent 12 168 46 18 66 168) recording
    ≡ record {
      answer = ok (counts 12 12 23 9 168);
      visited = visited;
      blocks = blocks;
      links = links;
      gaps = gaps;
      scratch = replicate 66 0;
      out =
          67 ∷ 76 ∷ 82 ∷ 1 ∷ 0 ∷ 0 ∷ 0 ∷ 0 ∷ 96 ∷ 3 ∷ 0 ∷ 0 ∷ 0 ∷ 0 ∷ 0 ∷ 0 ∷ 9 ∷ 0 ∷ 0 ∷ 0 ∷ 0 ∷ 0 ∷ 0 ∷ 0 ∷ 168 ∷ 0 ∷ 0 ∷ 0 ∷ 0 ∷ 0 ∷ 0 ∷ 0
          ∷ 181 ∷ 0 ∷ 0 ∷ 0 ∷ 0 ∷ 0 ∷ 0 ∷ 0 ∷ 9 ∷ 1 ∷ 0 ∷ 0 ∷ 0 ∷ 0 ∷ 0 ∷ 0 ∷ 16 ∷ 1 ∷ 0 ∷ 0 ∷ 0 ∷ 0 ∷ 0 ∷ 0 ∷ 80 ∷ 1 ∷ 0 ∷ 0 ∷ 0 ∷ 0 ∷ 0 ∷ 0 ∷ 81
          ∷ 1 ∷ 0 ∷ 0 ∷ 0 ∷ 0 ∷ 0 ∷ 0 ∷ 106 ∷ 1 ∷ 0 ∷ 0 ∷ 0 ∷ 0 ∷ 0 ∷ 0 ∷ 125 ∷ 1 ∷ 0 ∷ 0 ∷ 0 ∷ 0 ∷ 0 ∷ 0 ∷ 211 ∷ 1 ∷ 0 ∷ 0 ∷ 0 ∷ 0 ∷ 0 ∷ 0 ∷ 217
          ∷ 1 ∷ 0 ∷ 0 ∷ 0 ∷ 0 ∷ 0 ∷ 0 ∷ 54 ∷ 2 ∷ 0 ∷ 0 ∷ 0 ∷ 0 ∷ 0 ∷ 0 ∷ 56 ∷ 2 ∷ 0 ∷ 0 ∷ 0 ∷ 0 ∷ 0 ∷ 0 ∷ 120 ∷ 2 ∷ 0 ∷ 0 ∷ 0 ∷ 0 ∷ 0 ∷ 0 ∷ 160
          ∷ 2 ∷ 0 ∷ 0 ∷ 0 ∷ 0 ∷ 0 ∷ 0 ∷ 195 ∷ 2 ∷ 0 ∷ 0 ∷ 0 ∷ 0 ∷ 0 ∷ 0 ∷ 213 ∷ 2 ∷ 0 ∷ 0 ∷ 0 ∷ 0 ∷ 0 ∷ 0 ∷ 45 ∷ 3 ∷ 0 ∷ 0 ∷ 0 ∷ 0 ∷ 0 ∷ 0 ∷ 48
          ∷ 3 ∷ 0 ∷ 0 ∷ 0 ∷ 0 ∷ 0 ∷ 0 ∷ [];
    }
unfolding computed recording visited links gaps blocks
clear = refl

path : path_exit 337 (lent 12 168 46 18 0 6) recording
    ≡ record {
      answer = ok (counts 12 12 23 9 6);
      visited = visited;
      blocks = blocks;
      links = links;
      gaps = gaps;
      scratch = replicate 0 0;
      out =
          64 ∷ 272 ∷ 568 ∷ 502 ∷ 816 ∷ 337 ∷ [];
    }
unfolding computed recording visited links gaps blocks
path = refl

path_short : path_exit 337 (lent 12 168 46 18 0 5) recording
    ≡ record { answer = err (refusal 13 0 5 6); visited = replicate 12 0; blocks = replicate 168 0; links = replicate 46 0; gaps = replicate 18 0; scratch = replicate 0 0; out = replicate 5 0 }
unfolding computed recording
path_short = refl

marked_blocks : List ℕ
marked_blocks =
    0 ∷ 64 ∷ 64 ∷ 1145643811 ∷ 1 ∷ 0 ∷ 0 ∷ 0 ∷ 0 ∷ 0 ∷ 0 ∷ 1 ∷ 0 ∷ 0 ∷ 64 ∷ 168 ∷ 104 ∷ 1145578275 ∷ 2 ∷ 0 ∷ 0 ∷ 6 ∷ 0 ∷ 0 ∷ 0 ∷ 1 ∷ 0 ∷ 0
    ∷ 181 ∷ 265 ∷ 84 ∷ 1146299171 ∷ 10 ∷ 0 ∷ 0 ∷ 0 ∷ 0 ∷ 0 ∷ 0 ∷ 1 ∷ 725 ∷ 2 ∷ 272 ∷ 336 ∷ 64 ∷ 1195647779 ∷ 3 ∷ 0 ∷ 6 ∷ 4 ∷ 0 ∷ 0 ∷ 0 ∷ 1
    ∷ 64 ∷ 0 ∷ 337 ∷ 362 ∷ 25 ∷ 1448223523 ∷ 9 ∷ 0 ∷ 0 ∷ 0 ∷ 0 ∷ 0 ∷ 0 ∷ 1 ∷ 816 ∷ 0 ∷ 381 ∷ 467 ∷ 86 ∷ 1145905955 ∷ 8 ∷ 0 ∷ 0 ∷ 0 ∷ 0 ∷ 0
    ∷ 0 ∷ 1 ∷ 568 ∷ 3 ∷ 502 ∷ 566 ∷ 64 ∷ 1195647779 ∷ 3 ∷ 2 ∷ 18 ∷ 4 ∷ 0 ∷ 0 ∷ 0 ∷ 1 ∷ 568 ∷ 0 ∷ 537 ∷ 537 ∷ 0 ∷ 0 ∷ 13 ∷ 0 ∷ 0 ∷ 0 ∷ 0 ∷ 0
    ∷ 0 ∷ 1 ∷ 725 ∷ 1 ∷ 568 ∷ 632 ∷ 64 ∷ 1195647779 ∷ 3 ∷ 1 ∷ 14 ∷ 4 ∷ 0 ∷ 0 ∷ 0 ∷ 1 ∷ 272 ∷ 0 ∷ 672 ∷ 707 ∷ 35 ∷ 1279796003 ∷ 13 ∷ 0 ∷ 0
    ∷ 0 ∷ 0 ∷ 0 ∷ 0 ∷ 1 ∷ 725 ∷ 3 ∷ 725 ∷ 813 ∷ 88 ∷ 1279533859 ∷ 11 ∷ 0 ∷ 10 ∷ 4 ∷ 0 ∷ 0 ∷ 0 ∷ 1 ∷ 272 ∷ 2 ∷ 816 ∷ 864 ∷ 48 ∷ 1279533859
    ∷ 11 ∷ 0 ∷ 22 ∷ 1 ∷ 0 ∷ 0 ∷ 0 ∷ 1 ∷ 502 ∷ 2 ∷ []

tree : to_tree_exit (lent 12 168 46 18 0 1040) recording
    ≡ record {
      answer = ok (counts 12 12 23 9 1040);
      visited = visited;
      blocks = marked_blocks;
      links = links;
      gaps = gaps;
      scratch = replicate 0 0;
      out =
          ascii "##ID @ 0x0000000000 [Identification: version='5', program='" ++ replicate 8 0 ++ ascii "']\n"
          ++ ascii "##HD @ 0x0000000040 [Header Block (abs_time=5204493974242567488 ns, tz=32767 min)]\n"
          ++ ascii "`-- (first_dg_addr) ##DG @ 0x0000000110 [Data Group #0 (record_id_len=2)]\n"
          ++ ascii "    |-- (next_dg_addr) ##DG @ 0x0000000238 [Data Group #1 (record_id_len=1)]\n"
          ++ ascii "    |   |-- (next_dg_addr) ##DG @ 0x00000001f6 [Data Group #2 (record_id_len=0)]\n"
          ++ ascii "    |   |   `-- (data_block_addr) ##DL @ 0x0000000330 [Data List (1 fragments)]\n"
          ++ ascii "    |   |       `-- (next) ##RV @ 0x0000000151 [Data block (1 payload bytes)]\n"
          ++ ascii "    |   `-- (comment_addr) ##MD @ 0x000000017d [Metadata (XML, 135 chars): A"
          ++ (239 ∷ 191 ∷ 189 ∷ 239 ∷ 191 ∷ 189 ∷ 239 ∷ 191 ∷ 189 ∷ 239 ∷ 191 ∷ 189 ∷ 239 ∷ 191 ∷ 189 ∷ 239 ∷ 191 ∷ 189 ∷ 239 ∷ 191 ∷ 189 ∷ 239 ∷ 191 ∷ 189 ∷ [])
          ++ replicate 1 0
          ++ (239 ∷ 191 ∷ 189 ∷ 239 ∷ 191 ∷ 189 ∷ 239 ∷ 191 ∷ 189 ∷ 239 ∷ 191 ∷ 189 ∷ 194 ∷ 143 ∷ 239 ∷ 191 ∷ 189 ∷ 239 ∷ 191 ∷ 189 ∷ [])
          ++ ascii "bA" ++ (239 ∷ 191 ∷ 189 ∷ 239 ∷ 191 ∷ 189 ∷ []) ++ ascii " " ++ (194 ∷ 130 ∷ []) ++ ascii "A" ++ (239 ∷ 191 ∷ 189 ∷ [])
          ++ ascii "b" ++ (239 ∷ 191 ∷ 189 ∷ []) ++ ascii "A" ++ (239 ∷ 191 ∷ 189 ∷ []) ++ ascii "A"
          ++ (239 ∷ 191 ∷ 189 ∷ 239 ∷ 191 ∷ 189 ∷ 239 ∷ 191 ∷ 189 ∷ 239 ∷ 191 ∷ 189 ∷ 239 ∷ 191 ∷ 189 ∷ 239 ∷ 191 ∷ 189 ∷ []) ++ ascii " "
          ++ (239 ∷ 191 ∷ 189 ∷ []) ++ ascii "Ab" ++ (239 ∷ 191 ∷ 189 ∷ []) ++ ascii "A"
          ++ (239 ∷ 191 ∷ 189 ∷ 239 ∷ 191 ∷ 189 ∷ 194 ∷ 160 ∷ 239 ∷ 191 ∷ 189 ∷ 239 ∷ 191 ∷ 189 ∷ []) ++ ascii " ...]\n"
          ++ ascii "    `-- (data_block_addr) ##DL @ 0x00000002d5 [Data List (3 fragments)]\n" ++ ascii "        |-- (data_links[0]) "
          ++ replicate 4 0 ++ ascii " @ 0x0000000219 [Unknown data block]\n"
          ++ ascii "        |-- (data_links[1]) ##SD @ 0x00000000b5 [Signal data (VLSD stream, 60 payload bytes)]\n"
          ++ ascii "        `-- (data_links[2]) ##HL @ 0x00000002a0 [Unknown data block]\n";
    }
unfolding computed recording visited links gaps marked_blocks
tree = refl
