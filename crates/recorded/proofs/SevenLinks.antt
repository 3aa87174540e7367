-- seven_links.mf4, as the Rust answers it; links behind rows, path and clear list as the scripts draw them.
use mathlib.Core.Path.{◌≡◌, refl}
use mathlib.Core.List.{List, [], ◌∷◌, ◌++◌}
use Prim.Native.Nat.{ℕ}
use lib.ListN.{replicate}
use Rattle.fmt.specs.Text.{ascii}
use Rattle.mdf4.specs.Act.{ok, err, refusal}
use Rattle.mdf4.specs.Answers.{layout_exit, to_text_exit, to_tree_exit, path_exit, clear_list_exit}
use Rattle.mdf4.proofs.Computed.{computed}
use Rattle.mdf4.proofs.Recordings.{lent, counts}

recording : List ℕ
recording =
    ascii "MDF     4.10    console1" ++ replicate 4 0 ++ (154 ∷ 1 ∷ []) ++ replicate 34 0 ++ ascii "##HD" ++ replicate 4 0 ++ (104 ∷ [])
    ++ replicate 7 0 ++ (6 ∷ []) ++ replicate 7 0 ++ (208 ∷ []) ++ replicate 39 0 ++ (168 ∷ []) ++ replicate 7 0
    ++ (21 ∷ 129 ∷ 233 ∷ 125 ∷ 244 ∷ 16 ∷ 34 ∷ 17 ∷ 196 ∷ 255 ∷ 0 ∷ 0 ∷ 1 ∷ 2 ∷ 3 ∷ []) ++ replicate 17 0 ++ ascii "##MD" ++ replicate 4 0
    ++ (35 ∷ []) ++ replicate 15 0 ++ ascii "<a>\n" ++ ascii "b</a>" ++ replicate 7 0 ++ ascii "##DG" ++ replicate 4 0 ++ (64 ∷ [])
    ++ replicate 7 0 ++ (4 ∷ []) ++ replicate 7 0 ++ (16 ∷ 1 ∷ []) ++ replicate 6 0 ++ (112 ∷ 1 ∷ []) ++ replicate 6 0 ++ (224 ∷ 3 ∷ [])
    ++ replicate 6 0 ++ (168 ∷ []) ++ replicate 7 0 ++ (2 ∷ []) ++ replicate 7 0 ++ ascii "##DG" ++ replicate 4 0 ++ (64 ∷ [])
    ++ replicate 7 0 ++ (4 ∷ []) ++ replicate 23 0 ++ (80 ∷ 1 ∷ []) ++ replicate 14 0 ++ (1 ∷ []) ++ replicate 7 0 ++ ascii "##RD"
    ++ replicate 4 0 ++ (27 ∷ []) ++ replicate 23 0 ++ ascii "##CG" ++ replicate 4 0 ++ (112 ∷ []) ++ replicate 7 0 ++ (7 ∷ [])
    ++ replicate 15 0 ++ (224 ∷ 1 ∷ []) ++ replicate 6 0 ++ (88 ∷ 3 ∷ []) ++ replicate 6 0 ++ (32 ∷ 3 ∷ []) ++ replicate 14 0 ++ (168 ∷ [])
    ++ replicate 7 0 ++ (112 ∷ 1 ∷ []) ++ replicate 6 0 ++ (3 ∷ []) ++ replicate 7 0 ++ (5 ∷ []) ++ replicate 7 0 ++ (8 ∷ [])
    ++ replicate 7 0 ++ (4 ∷ 0 ∷ 0 ∷ 0 ∷ 1 ∷ 0 ∷ 0 ∷ 0 ∷ []) ++ ascii "##CN" ++ replicate 4 0 ++ (160 ∷ []) ++ replicate 7 0 ++ (8 ∷ [])
    ++ replicate 7 0 ++ (128 ∷ 2 ∷ []) ++ replicate 14 0 ++ (120 ∷ 3 ∷ []) ++ replicate 6 0 ++ (32 ∷ 3 ∷ []) ++ replicate 22 0
    ++ (160 ∷ 3 ∷ []) ++ replicate 16 0 ++ (4 ∷ []) ++ replicate 5 0 ++ (16 ∷ 0 ∷ 0 ∷ 0 ∷ 1 ∷ 0 ∷ 0 ∷ 0 ∷ 2 ∷ 0 ∷ 0 ∷ 0 ∷ 3 ∷ [])
    ++ replicate 51 0 ++ ascii "##CN" ++ replicate 4 0 ++ (160 ∷ []) ++ replicate 7 0 ++ (8 ∷ []) ++ replicate 23 0 ++ (88 ∷ 3 ∷ [])
    ++ replicate 22 0 ++ (96 ∷ 4 ∷ []) ++ replicate 6 0 ++ (160 ∷ 3 ∷ []) ++ replicate 6 0 ++ (192 ∷ 3 ∷ []) ++ replicate 6 0
    ++ (1 ∷ 0 ∷ 10 ∷ 0 ∷ 2 ∷ []) ++ replicate 67 0 ++ ascii "##SI" ++ replicate 4 0 ++ (56 ∷ []) ++ replicate 7 0 ++ (3 ∷ [])
    ++ replicate 7 0 ++ (88 ∷ 3 ∷ []) ++ replicate 14 0 ++ (168 ∷ []) ++ replicate 7 0 ++ (1 ∷ 2 ∷ 1 ∷ []) ++ replicate 5 0 ++ ascii "##TX"
    ++ replicate 4 0 ++ (28 ∷ []) ++ replicate 15 0 ++ (69 ∷ 67 ∷ 85 ∷ []) ++ replicate 5 0 ++ ascii "##TX" ++ replicate 4 0 ++ (33 ∷ [])
    ++ replicate 16 0 ++ ascii "Speed" ++ (0 ∷ 120 ∷ []) ++ replicate 8 0 ++ ascii "##TX" ++ replicate 4 0 ++ (32 ∷ []) ++ replicate 15 0
    ++ ascii "km/h" ++ replicate 4 0 ++ ascii "##ZZ" ++ replicate 4 0 ++ (32 ∷ []) ++ replicate 23 0 ++ ascii "##DL" ++ replicate 4 0
    ++ (56 ∷ []) ++ replicate 7 0 ++ (2 ∷ []) ++ replicate 7 0 ++ (24 ∷ 4 ∷ []) ++ replicate 6 0 ++ (152 ∷ 4 ∷ []) ++ replicate 6 0
    ++ (1 ∷ 0 ∷ 0 ∷ 0 ∷ 1 ∷ 0 ∷ 0 ∷ 0 ∷ 20 ∷ []) ++ replicate 7 0 ++ ascii "##DL" ++ replicate 4 0 ++ (72 ∷ []) ++ replicate 7 0 ++ (3 ∷ [])
    ++ replicate 15 0 ++ (200 ∷ 4 ∷ []) ++ replicate 6 0 ++ (16 ∷ 5 ∷ []) ++ replicate 10 0 ++ (2 ∷ []) ++ replicate 19 0 ++ ascii "##DL"
    ++ replicate 4 0 ++ (56 ∷ []) ++ replicate 7 0 ++ (2 ∷ []) ++ replicate 15 0 ++ (240 ∷ 4 ∷ []) ++ replicate 6 0
    ++ (1 ∷ 0 ∷ 0 ∷ 0 ∷ 1 ∷ 0 ∷ 0 ∷ 0 ∷ 6 ∷ []) ++ replicate 7 0 ++ ascii "##DT" ++ replicate 4 0 ++ (44 ∷ []) ++ replicate 16 0
    ++ (1 ∷ 2 ∷ 3 ∷ 4 ∷ 5 ∷ 6 ∷ 7 ∷ 8 ∷ 9 ∷ 10 ∷ 11 ∷ 12 ∷ 13 ∷ 14 ∷ 15 ∷ 16 ∷ 17 ∷ 18 ∷ 19 ∷ []) ++ replicate 4 0 ++ ascii "##DV"
    ++ replicate 4 0 ++ (39 ∷ []) ++ replicate 31 0 ++ ascii "##SD" ++ replicate 4 0 ++ (30 ∷ []) ++ replicate 23 0 ++ ascii "##QQ"
    ++ replicate 4 0 ++ (32 ∷ []) ++ replicate 23 0

visited : List ℕ
visited =
    0 ∷ 64 ∷ 168 ∷ 208 ∷ 368 ∷ 856 ∷ 800 ∷ 480 ∷ 888 ∷ 928 ∷ 640 ∷ 960 ∷ 1120 ∷ 1264 ∷ 992 ∷ 1176 ∷ 1048 ∷ 1224 ∷ 1296 ∷ 272 ∷ 336 ∷ []

links : List ℕ
links =
    208 ∷ 1195647780 ∷ 0 ∷ 0 ∷ 0 ∷ 0 ∷ 0 ∷ 0 ∷ 0 ∷ 0 ∷ 168 ∷ 1145905956 ∷ 272 ∷ 1195647780 ∷ 368 ∷ 1195582244 ∷ 992 ∷ 1279533860 ∷ 168
    ∷ 1145905956 ∷ 0 ∷ 0 ∷ 480 ∷ 1313022756 ∷ 856 ∷ 1481909028 ∷ 800 ∷ 1230185252 ∷ 0 ∷ 0 ∷ 168 ∷ 1145905956 ∷ 368 ∷ 1195582244 ∷ 856
    ∷ 1481909028 ∷ 0 ∷ 0 ∷ 168 ∷ 1145905956 ∷ 640 ∷ 1313022756 ∷ 0 ∷ 0 ∷ 888 ∷ 1481909028 ∷ 800 ∷ 1230185252 ∷ 0 ∷ 0 ∷ 0 ∷ 0 ∷ 928
    ∷ 1481909028 ∷ 0 ∷ 0 ∷ 0 ∷ 0 ∷ 0 ∷ 0 ∷ 856 ∷ 1481909028 ∷ 0 ∷ 0 ∷ 0 ∷ 0 ∷ 1120 ∷ 1279533860 ∷ 928 ∷ 1481909028 ∷ 960 ∷ 1515856676 ∷ 0
    ∷ 0 ∷ 1264 ∷ 1146299172 ∷ 1048 ∷ 1279533860 ∷ 1176 ∷ 1413751588 ∷ 0 ∷ 0 ∷ 1224 ∷ 1447306020 ∷ 1296 ∷ 1364271908 ∷ 0 ∷ 0 ∷ 0 ∷ 0 ∷ 336
    ∷ 1146233636 ∷ 0 ∷ 0 ∷ []

gaps : List ℕ
gaps =
    203 ∷ 208 ∷ 363 ∷ 368 ∷ 884 ∷ 888 ∷ 921 ∷ 928 ∷ 1220 ∷ 1224 ∷ 1263 ∷ 1264 ∷ 1294 ∷ 1296 ∷ []

blocks : List ℕ
blocks =
    0 ∷ 64 ∷ 64 ∷ 1145643811 ∷ 1 ∷ 0 ∷ 0 ∷ 0 ∷ 0 ∷ 0 ∷ 0 ∷ 0 ∷ 0 ∷ 0 ∷ 64 ∷ 168 ∷ 104 ∷ 1145578275 ∷ 2 ∷ 0 ∷ 0 ∷ 6 ∷ 0 ∷ 0 ∷ 0 ∷ 0 ∷ 0 ∷ 0
    ∷ 168 ∷ 203 ∷ 35 ∷ 1145905955 ∷ 8 ∷ 0 ∷ 0 ∷ 0 ∷ 0 ∷ 0 ∷ 0 ∷ 0 ∷ 64 ∷ 5 ∷ 208 ∷ 272 ∷ 64 ∷ 1195647779 ∷ 3 ∷ 0 ∷ 6 ∷ 4 ∷ 0 ∷ 0 ∷ 0 ∷ 0
    ∷ 64 ∷ 0 ∷ 272 ∷ 336 ∷ 64 ∷ 1195647779 ∷ 3 ∷ 1 ∷ 43 ∷ 4 ∷ 0 ∷ 0 ∷ 0 ∷ 0 ∷ 208 ∷ 0 ∷ 336 ∷ 363 ∷ 27 ∷ 1146233635 ∷ 9 ∷ 0 ∷ 0 ∷ 0 ∷ 0 ∷ 0
    ∷ 1 ∷ 0 ∷ 272 ∷ 2 ∷ 368 ∷ 480 ∷ 112 ∷ 1195582243 ∷ 4 ∷ 0 ∷ 10 ∷ 7 ∷ 7 ∷ 1 ∷ 2 ∷ 0 ∷ 208 ∷ 1 ∷ 480 ∷ 640 ∷ 160 ∷ 1313022755 ∷ 5 ∷ 0 ∷ 20
    ∷ 8 ∷ 0 ∷ 0 ∷ 0 ∷ 0 ∷ 368 ∷ 1 ∷ 640 ∷ 800 ∷ 160 ∷ 1313022755 ∷ 5 ∷ 1 ∷ 28 ∷ 8 ∷ 0 ∷ 0 ∷ 0 ∷ 0 ∷ 480 ∷ 0 ∷ 800 ∷ 856 ∷ 56 ∷ 1230185251
    ∷ 6 ∷ 0 ∷ 17 ∷ 3 ∷ 0 ∷ 0 ∷ 0 ∷ 0 ∷ 368 ∷ 3 ∷ 856 ∷ 884 ∷ 28 ∷ 1481909027 ∷ 7 ∷ 0 ∷ 0 ∷ 0 ∷ 0 ∷ 0 ∷ 0 ∷ 0 ∷ 368 ∷ 2 ∷ 888 ∷ 921 ∷ 33
    ∷ 1481909027 ∷ 7 ∷ 0 ∷ 0 ∷ 0 ∷ 0 ∷ 0 ∷ 0 ∷ 0 ∷ 480 ∷ 2 ∷ 928 ∷ 960 ∷ 32 ∷ 1481909027 ∷ 7 ∷ 0 ∷ 0 ∷ 0 ∷ 0 ∷ 0 ∷ 0 ∷ 0 ∷ 480 ∷ 6 ∷ 960
    ∷ 992 ∷ 32 ∷ 1515856675 ∷ 12 ∷ 0 ∷ 0 ∷ 0 ∷ 0 ∷ 0 ∷ 0 ∷ 0 ∷ 640 ∷ 7 ∷ 992 ∷ 1048 ∷ 56 ∷ 1279533859 ∷ 11 ∷ 0 ∷ 38 ∷ 2 ∷ 0 ∷ 0 ∷ 0 ∷ 0
    ∷ 208 ∷ 2 ∷ 1048 ∷ 1120 ∷ 72 ∷ 1279533859 ∷ 11 ∷ 0 ∷ 40 ∷ 3 ∷ 0 ∷ 0 ∷ 0 ∷ 0 ∷ 992 ∷ 0 ∷ 1120 ∷ 1176 ∷ 56 ∷ 1279533859 ∷ 11 ∷ 0 ∷ 36 ∷ 2
    ∷ 0 ∷ 0 ∷ 0 ∷ 0 ∷ 640 ∷ 5 ∷ 1176 ∷ 1220 ∷ 44 ∷ 1413751587 ∷ 9 ∷ 0 ∷ 0 ∷ 0 ∷ 7 ∷ 1 ∷ 2 ∷ 0 ∷ 992 ∷ 1 ∷ 1224 ∷ 1263 ∷ 39 ∷ 1447306019 ∷ 9
    ∷ 0 ∷ 0 ∷ 0 ∷ 7 ∷ 1 ∷ 2 ∷ 0 ∷ 1048 ∷ 1 ∷ 1264 ∷ 1294 ∷ 30 ∷ 1146299171 ∷ 10 ∷ 0 ∷ 0 ∷ 0 ∷ 0 ∷ 0 ∷ 0 ∷ 0 ∷ 1120 ∷ 1 ∷ 1296 ∷ 1328 ∷ 32
    ∷ 1364271907 ∷ 13 ∷ 0 ∷ 0 ∷ 0 ∷ 0 ∷ 0 ∷ 0 ∷ 0 ∷ 1048 ∷ 2 ∷ []

layout : layout_exit (lent 21 294 94 14 0 0) recording
    ≡ record {
      answer = ok (counts 21 21 47 7 0);
      visited = visited;
      blocks = blocks;
      links = links;
      gaps = gaps;
      scratch = replicate 0 0;
      out =
          [];
    }
unfolding computed recording visited links gaps blocks
layout = refl

text : to_text_exit (lent 21 294 94 14 0 6597) recording
    ≡ record {
      answer = ok (counts 21 21 47 7 6597);
      visited = visited;
      blocks = blocks;
      links = links;
      gaps = gaps;
      scratch = replicate 0 0;
      out =
          ascii "MDF block layout (file size: 1328 bytes / 0x530)\n" ++ (10 ∷ []) ++ ascii "Blocks (21 total), sorted by offset:\n"
          ++ ascii "offset        end                 size  type    description\n"
          ++ ascii "------------  ------------  ----------  ------  ------------------------------------------------------------\n"
          ++ ascii "0x0000000000  0x0000000040          64  ##ID    Identification: version='4.10', program='console1'\n"
          ++ ascii "                                            version_number=410, standard_unfinalized_flags=0x0000, custom_unfinalized_flags=0x0000\n"
          ++ ascii "0x0000000040  0x00000000a8         104  ##HD    Header Block (abs_time=1234567890123456789 ns, tz=-60 min)\n"
          ++ ascii "                                            flags=0x03, time_flags=0x01, time_quality=0x02\n"
          ++ ascii "0x00000000a8  0x00000000cb          35  ##MD    Metadata (XML, 9 chars): <a> b</a>\n"
          ++ ascii "0x00000000d0  0x0000000110          64  ##DG    Data Group #0 (record_id_len=2)\n"
          ++ ascii "0x0000000110  0x0000000150          64  ##DG    Data Group #1 (record_id_len=1)\n"
          ++ ascii "0x0000000150  0x000000016b          27  ##RD    Data block (3 payload bytes)\n"
          ++ ascii "                                            payload=3 bytes (header=24 bytes)\n"
          ++ ascii "0x0000000170  0x00000001e0         112  ##CG    Channel Group #0 (cycles=5, record=7B = 4B data + 1B inval + 2B record_id)\n"
          ++ ascii "                                            flags=0x0008, record_id=3\n"
          ++ ascii "0x00000001e0  0x0000000280         160  ##CN    Channel #0 'Speed" ++ replicate 1 0
          ++ ascii "x' (ch_type=0, sync=0, dtype=FloatLE, 16b @ byte=0 bit=0)\n"
          ++ ascii "                                            flags=0x00000001, pos_invalidation_bit=2, precision=3\n"
          ++ ascii "0x0000000280  0x0000000320         160  ##CN    Channel #1 'ECU' (ch_type=1, sync=0, dtype=ByteArray, 0b @ byte=2 bit=0)\n"
          ++ ascii "                                            flags=0x00000000, pos_invalidation_bit=0, precision=0\n"
          ++ ascii "0x0000000320  0x0000000358          56  ##SI    Source (type=1, bus_type=2, flags=0x01)\n"
          ++ ascii "0x0000000358  0x0000000374          28  ##TX    Text: \"ECU\" (3 chars)\n"
          ++ ascii "0x0000000378  0x0000000399          33  ##TX    Text: \"\" (0 chars)\n"
          ++ ascii "0x00000003a0  0x00000003c0          32  ##TX    Text: \"km/h\" (4 chars)\n"
          ++ ascii "0x00000003c0  0x00000003e0          32  ##ZZ    Unknown block (not walked further)\n"
          ++ ascii "0x00000003e0  0x0000000418          56  ##DL    Data List (1 fragments, equal_length=20B)\n"
          ++ ascii "                                            flags=0x01\n"
          ++ ascii "0x0000000418  0x0000000460          72  ##DL    Data List (2 fragments)\n"
          ++ ascii "                                            flags=0x00\n"
          ++ ascii "0x0000000460  0x0000000498          56  ##DL    Data List (1 fragments, equal_length=6B)\n"
          ++ ascii "                                            flags=0x01\n"
          ++ ascii "0x0000000498  0x00000004c4          44  ##DT    Data block (20 payload bytes)\n"
          ++ ascii "                                            payload=20 bytes, header=24 bytes, record layout = 7B (record_id=2B + data + invalidation=1B), records=2, trailing=6B\n"
          ++ ascii "0x00000004c8  0x00000004ef          39  ##DV    Data block (15 payload bytes)\n"
          ++ ascii "                                            payload=15 bytes, header=24 bytes, record layout = 7B (record_id=2B + data + invalidation=1B), records=2, trailing=1B\n"
          ++ ascii "0x00000004f0  0x000000050e          30  ##SD    Signal data (VLSD stream, 6 payload bytes)\n"
          ++ ascii "0x0000000510  0x0000000530          32  ##QQ    Unknown data block\n" ++ (10 ∷ [])
          ++ ascii "Unreferenced byte ranges (gaps):\n" ++ ascii "  0x00000000cb .. 0x00000000d0  (5 bytes)\n"
          ++ ascii "  0x000000016b .. 0x0000000170  (5 bytes)\n" ++ ascii "  0x0000000374 .. 0x0000000378  (4 bytes)\n"
          ++ ascii "  0x0000000399 .. 0x00000003a0  (7 bytes)\n" ++ ascii "  0x00000004c4 .. 0x00000004c8  (4 bytes)\n"
          ++ ascii "  0x00000004ef .. 0x00000004f0  (1 bytes)\n" ++ ascii "  0x000000050e .. 0x0000000510  (2 bytes)\n" ++ (10 ∷ [])
          ++ ascii "Block links:\n" ++ ascii "  ##HD @ 0x0000000040 (Header Block (abs_time=1234567890123456789 ns, tz=-60 min))\n"
          ++ ascii "    first_dg_addr                -> 0x00000000d0 (##DG)\n" ++ ascii "    file_history_addr            -> (null)\n"
          ++ ascii "    channel_tree_addr            -> (null)\n" ++ ascii "    first_attachment_addr        -> (null)\n"
          ++ ascii "    first_event_addr             -> (null)\n" ++ ascii "    comment_addr                 -> 0x00000000a8 (##MD)\n"
          ++ ascii "  ##DG @ 0x00000000d0 (Data Group #0 (record_id_len=2))\n"
          ++ ascii "    next_dg_addr                 -> 0x0000000110 (##DG)\n"
          ++ ascii "    first_cg_addr                -> 0x0000000170 (##CG)\n"
          ++ ascii "    data_block_addr              -> 0x00000003e0 (##DL)\n"
          ++ ascii "    comment_addr                 -> 0x00000000a8 (##MD)\n"
          ++ ascii "  ##DG @ 0x0000000110 (Data Group #1 (record_id_len=1))\n" ++ ascii "    next_dg_addr                 -> (null)\n"
          ++ ascii "    first_cg_addr                -> (null)\n" ++ ascii "    data_block_addr              -> 0x0000000150 (##RD)\n"
          ++ ascii "    comment_addr                 -> (null)\n"
          ++ ascii "  ##CG @ 0x0000000170 (Channel Group #0 (cycles=5, record=7B = 4B data + 1B inval + 2B record_id))\n"
          ++ ascii "    next_cg_addr                 -> (null)\n" ++ ascii "    first_ch_addr                -> 0x00000001e0 (##CN)\n"
          ++ ascii "    acq_name_addr                -> 0x0000000358 (##TX)\n"
          ++ ascii "    acq_source_addr              -> 0x0000000320 (##SI)\n" ++ ascii "    first_sample_reduction_addr  -> (null)\n"
          ++ ascii "    comment_addr                 -> 0x00000000a8 (##MD)\n"
          ++ ascii "    master_cg_addr               -> 0x0000000170 (##CG)\n" ++ ascii "  ##CN @ 0x00000001e0 (Channel #0 'Speed"
          ++ replicate 1 0 ++ ascii "x' (ch_type=0, sync=0, dtype=FloatLE, 16b @ byte=0 bit=0))\n"
          ++ ascii "    next_ch_addr                 -> 0x0000000280 (##CN)\n" ++ ascii "    component_addr               -> (null)\n"
          ++ ascii "    name_addr                    -> 0x0000000378 (##TX)\n"
          ++ ascii "    source_addr                  -> 0x0000000320 (##SI)\n" ++ ascii "    conversion_addr              -> (null)\n"
          ++ ascii "    data                         -> (null)\n" ++ ascii "    unit_addr                    -> 0x00000003a0 (##TX)\n"
          ++ ascii "    comment_addr                 -> (null)\n"
          ++ ascii "  ##CN @ 0x0000000280 (Channel #1 'ECU' (ch_type=1, sync=0, dtype=ByteArray, 0b @ byte=2 bit=0))\n"
          ++ ascii "    next_ch_addr                 -> (null)\n" ++ ascii "    component_addr               -> (null)\n"
          ++ ascii "    name_addr                    -> 0x0000000358 (##TX)\n" ++ ascii "    source_addr                  -> (null)\n"
          ++ ascii "    conversion_addr              -> (null)\n" ++ ascii "    data                         -> 0x0000000460 (##DL)\n"
          ++ ascii "    unit_addr                    -> 0x00000003a0 (##TX)\n"
          ++ ascii "    comment_addr                 -> 0x00000003c0 (##ZZ)\n"
          ++ ascii "  ##SI @ 0x0000000320 (Source (type=1, bus_type=2, flags=0x01))\n"
          ++ ascii "    name_addr                    -> 0x0000000358 (##TX)\n" ++ ascii "    path_addr                    -> (null)\n"
          ++ ascii "    comment_addr                 -> 0x00000000a8 (##MD)\n"
          ++ ascii "  ##DL @ 0x00000003e0 (Data List (1 fragments, equal_length=20B))\n"
          ++ ascii "    next                         -> 0x0000000418 (##DL)\n"
          ++ ascii "    data_links[0]                -> 0x0000000498 (##DT)\n" ++ ascii "  ##DL @ 0x0000000418 (Data List (2 fragments))\n"
          ++ ascii "    next                         -> (null)\n" ++ ascii "    data_links[0]                -> 0x00000004c8 (##DV)\n"
          ++ ascii "    data_links[1]                -> 0x0000000510 (##QQ)\n"
          ++ ascii "  ##DL @ 0x0000000460 (Data List (1 fragments, equal_length=6B))\n" ++ ascii "    next                         -> (null)\n"
          ++ ascii "    data_links[0]                -> 0x00000004f0 (##SD)\n";
    }
unfolding computed recording visited links gaps blocks
text = refl

clear : clear_list_exit (lent 21 294 94 14 154 136) recording
    ≡ record {
      answer = ok (counts 21 21 47 7 136);
      visited = visited;
      blocks = blocks;
      links = links;
      gaps = gaps;
      scratch = replicate 154 0;
      out =
          67 ∷ 76 ∷ 82 ∷ 1 ∷ 0 ∷ 0 ∷ 0 ∷ 0 ∷ 48 ∷ 5 ∷ 0 ∷ 0 ∷ 0 ∷ 0 ∷ 0 ∷ 0 ∷ 7 ∷ 0 ∷ 0 ∷ 0 ∷ 0 ∷ 0 ∷ 0 ∷ 0 ∷ 203 ∷ 0 ∷ 0 ∷ 0 ∷ 0 ∷ 0 ∷ 0 ∷ 0
          ∷ 208 ∷ 0 ∷ 0 ∷ 0 ∷ 0 ∷ 0 ∷ 0 ∷ 0 ∷ 107 ∷ 1 ∷ 0 ∷ 0 ∷ 0 ∷ 0 ∷ 0 ∷ 0 ∷ 112 ∷ 1 ∷ 0 ∷ 0 ∷ 0 ∷ 0 ∷ 0 ∷ 0 ∷ 116 ∷ 3 ∷ 0 ∷ 0 ∷ 0 ∷ 0 ∷ 0 ∷ 0
          ∷ 120 ∷ 3 ∷ 0 ∷ 0 ∷ 0 ∷ 0 ∷ 0 ∷ 0 ∷ 153 ∷ 3 ∷ 0 ∷ 0 ∷ 0 ∷ 0 ∷ 0 ∷ 0 ∷ 160 ∷ 3 ∷ 0 ∷ 0 ∷ 0 ∷ 0 ∷ 0 ∷ 0 ∷ 196 ∷ 4 ∷ 0 ∷ 0 ∷ 0 ∷ 0 ∷ 0 ∷ 0
          ∷ 200 ∷ 4 ∷ 0 ∷ 0 ∷ 0 ∷ 0 ∷ 0 ∷ 0 ∷ 239 ∷ 4 ∷ 0 ∷ 0 ∷ 0 ∷ 0 ∷ 0 ∷ 0 ∷ 240 ∷ 4 ∷ 0 ∷ 0 ∷ 0 ∷ 0 ∷ 0 ∷ 0 ∷ 14 ∷ 5 ∷ 0 ∷ 0 ∷ 0 ∷ 0 ∷ 0 ∷ 0
          ∷ 16 ∷ 5 ∷ 0 ∷ 0 ∷ 0 ∷ 0 ∷ 0 ∷ 0 ∷ [];
    }
unfolding computed recording visited links gaps blocks
clear = refl

path : path_exit 1264 (lent 21 294 94 14 0 7) recording
    ≡ record {
      answer = ok (counts 21 21 47 7 7);
      visited = visited;
      blocks = blocks;
      links = links;
      gaps = gaps;
      scratch = replicate 0 0;
      out =
          64 ∷ 208 ∷ 368 ∷ 480 ∷ 640 ∷ 1120 ∷ 1264 ∷ [];
    }
unfolding computed recording visited links gaps blocks
path = refl

path_short : path_exit 1264 (lent 21 294 94 14 0 6) recording
    ≡ record { answer = err (refusal 13 0 6 7); visited = replicate 21 0; blocks = replicate 294 0; links = replicate 94 0; gaps = replicate 14 0; scratch = replicate 0 0; out = replicate 6 0 }
unfolding computed recording
path_short = refl

marked_blocks : List ℕ
marked_blocks =
    0 ∷ 64 ∷ 64 ∷ 1145643811 ∷ 1 ∷ 0 ∷ 0 ∷ 0 ∷ 0 ∷ 0 ∷ 0 ∷ 1 ∷ 0 ∷ 0 ∷ 64 ∷ 168 ∷ 104 ∷ 1145578275 ∷ 2 ∷ 0 ∷ 0 ∷ 6 ∷ 0 ∷ 0 ∷ 0 ∷ 1 ∷ 0 ∷ 0
    ∷ 168 ∷ 203 ∷ 35 ∷ 1145905955 ∷ 8 ∷ 0 ∷ 0 ∷ 0 ∷ 0 ∷ 0 ∷ 0 ∷ 1 ∷ 64 ∷ 5 ∷ 208 ∷ 272 ∷ 64 ∷ 1195647779 ∷ 3 ∷ 0 ∷ 6 ∷ 4 ∷ 0 ∷ 0 ∷ 0 ∷ 1
    ∷ 64 ∷ 0 ∷ 272 ∷ 336 ∷ 64 ∷ 1195647779 ∷ 3 ∷ 1 ∷ 43 ∷ 4 ∷ 0 ∷ 0 ∷ 0 ∷ 1 ∷ 208 ∷ 0 ∷ 336 ∷ 363 ∷ 27 ∷ 1146233635 ∷ 9 ∷ 0 ∷ 0 ∷ 0 ∷ 0 ∷ 0
    ∷ 1 ∷ 1 ∷ 272 ∷ 2 ∷ 368 ∷ 480 ∷ 112 ∷ 1195582243 ∷ 4 ∷ 0 ∷ 10 ∷ 7 ∷ 7 ∷ 1 ∷ 2 ∷ 1 ∷ 208 ∷ 1 ∷ 480 ∷ 640 ∷ 160 ∷ 1313022755 ∷ 5 ∷ 0 ∷ 20
    ∷ 8 ∷ 0 ∷ 0 ∷ 0 ∷ 1 ∷ 368 ∷ 1 ∷ 640 ∷ 800 ∷ 160 ∷ 1313022755 ∷ 5 ∷ 1 ∷ 28 ∷ 8 ∷ 0 ∷ 0 ∷ 0 ∷ 1 ∷ 480 ∷ 0 ∷ 800 ∷ 856 ∷ 56 ∷ 1230185251
    ∷ 6 ∷ 0 ∷ 17 ∷ 3 ∷ 0 ∷ 0 ∷ 0 ∷ 1 ∷ 368 ∷ 3 ∷ 856 ∷ 884 ∷ 28 ∷ 1481909027 ∷ 7 ∷ 0 ∷ 0 ∷ 0 ∷ 0 ∷ 0 ∷ 0 ∷ 1 ∷ 368 ∷ 2 ∷ 888 ∷ 921 ∷ 33
    ∷ 1481909027 ∷ 7 ∷ 0 ∷ 0 ∷ 0 ∷ 0 ∷ 0 ∷ 0 ∷ 1 ∷ 480 ∷ 2 ∷ 928 ∷ 960 ∷ 32 ∷ 1481909027 ∷ 7 ∷ 0 ∷ 0 ∷ 0 ∷ 0 ∷ 0 ∷ 0 ∷ 1 ∷ 480 ∷ 6 ∷ 960
    ∷ 992 ∷ 32 ∷ 1515856675 ∷ 12 ∷ 0 ∷ 0 ∷ 0 ∷ 0 ∷ 0 ∷ 0 ∷ 1 ∷ 640 ∷ 7 ∷ 992 ∷ 1048 ∷ 56 ∷ 1279533859 ∷ 11 ∷ 0 ∷ 38 ∷ 2 ∷ 0 ∷ 0 ∷ 0 ∷ 1
    ∷ 208 ∷ 2 ∷ 1048 ∷ 1120 ∷ 72 ∷ 1279533859 ∷ 11 ∷ 0 ∷ 40 ∷ 3 ∷ 0 ∷ 0 ∷ 0 ∷ 1 ∷ 992 ∷ 0 ∷ 1120 ∷ 1176 ∷ 56 ∷ 1279533859 ∷ 11 ∷ 0 ∷ 36 ∷ 2
    ∷ 0 ∷ 0 ∷ 0 ∷ 1 ∷ 640 ∷ 5 ∷ 1176 ∷ 1220 ∷ 44 ∷ 1413751587 ∷ 9 ∷ 0 ∷ 0 ∷ 0 ∷ 7 ∷ 1 ∷ 2 ∷ 1 ∷ 992 ∷ 1 ∷ 1224 ∷ 1263 ∷ 39 ∷ 1447306019 ∷ 9
    ∷ 0 ∷ 0 ∷ 0 ∷ 7 ∷ 1 ∷ 2 ∷ 1 ∷ 1048 ∷ 1 ∷ 1264 ∷ 1294 ∷ 30 ∷ 1146299171 ∷ 10 ∷ 0 ∷ 0 ∷ 0 ∷ 0 ∷ 0 ∷ 0 ∷ 1 ∷ 1120 ∷ 1 ∷ 1296 ∷ 1328 ∷ 32
    ∷ 1364271907 ∷ 13 ∷ 0 ∷ 0 ∷ 0 ∷ 0 ∷ 0 ∷ 0 ∷ 1 ∷ 1048 ∷ 2 ∷ []

tree : to_tree_exit (lent 21 294 94 14 0 2659) recording
    ≡ record {
      answer = ok (counts 21 21 47 7 2659);
      visited = visited;
      blocks = marked_blocks;
      links = links;
      gaps = gaps;
      scratch = replicate 0 0;
      out =
          ascii "##ID @ 0x0000000000 [Identification: version='4.10', program='console1']\n"
          ++ ascii "##HD @ 0x0000000040 [Header Block (abs_time=1234567890123456789 ns, tz=-60 min)]\n"
          ++ ascii "|-- (first_dg_addr) ##DG @ 0x00000000d0 [Data Group #0 (record_id_len=2)]\n"
          ++ ascii "|   |-- (next_dg_addr) ##DG @ 0x0000000110 [Data Group #1 (record_id_len=1)]\n"
          ++ ascii "|   |   `-- (data_block_addr) ##RD @ 0x0000000150 [Data block (3 payload bytes)]\n"
          ++ ascii "|   |-- (first_cg_addr) ##CG @ 0x0000000170 [Channel Group #0 (cycles=5, record=7B = 4B data + 1B inval + 2B record_id)]\n"
          ++ ascii "|   |   |-- (first_ch_addr) ##CN @ 0x00000001e0 [Channel #0 'Speed" ++ replicate 1 0
          ++ ascii "x' (ch_type=0, sync=0, dtype=FloatLE, 16b @ byte=0 bit=0)]\n"
          ++ ascii "|   |   |   |-- (next_ch_addr) ##CN @ 0x0000000280 [Channel #1 'ECU' (ch_type=1, sync=0, dtype=ByteArray, 0b @ byte=2 bit=0)]\n"
          ++ ascii "|   |   |   |   |-- (name_addr) ##TX @ 0x0000000358 [Text: \"ECU\" (3 chars)]\n"
          ++ ascii "|   |   |   |   |-- (data) ##DL @ 0x0000000460 [Data List (1 fragments, equal_length=6B)]\n"
          ++ ascii "|   |   |   |   |   `-- (data_links[0]) ##SD @ 0x00000004f0 [Signal data (VLSD stream, 6 payload bytes)]\n"
          ++ ascii "|   |   |   |   |-- (unit_addr) ##TX @ 0x00000003a0 [Text: \"km/h\" (4 chars)]\n"
          ++ ascii "|   |   |   |   `-- (comment_addr) ##ZZ @ 0x00000003c0 [Unknown block (not walked further)]\n"
          ++ ascii "|   |   |   |-- (name_addr) ##TX @ 0x0000000378 [Text: \"\" (0 chars)]\n"
          ++ ascii "|   |   |   |-- (source_addr) ##SI @ 0x0000000320 [Source (type=1, bus_type=2, flags=0x01)]\n"
          ++ ascii "|   |   |   |   |-- (name_addr) ##TX @ 0x0000000358 [Text: \"ECU\" (3 chars)] (already listed)\n"
          ++ ascii "|   |   |   |   `-- (comment_addr) ##MD @ 0x00000000a8 [Metadata (XML, 9 chars): <a> b</a>]\n"
          ++ ascii "|   |   |   `-- (unit_addr) ##TX @ 0x00000003a0 [Text: \"km/h\" (4 chars)] (already listed)\n"
          ++ ascii "|   |   |-- (acq_name_addr) ##TX @ 0x0000000358 [Text: \"ECU\" (3 chars)] (already listed)\n"
          ++ ascii "|   |   |-- (acq_source_addr) ##SI @ 0x0000000320 [Source (type=1, bus_type=2, flags=0x01)] (already listed)\n"
          ++ ascii "|   |   |-- (comment_addr) ##MD @ 0x00000000a8 [Metadata (XML, 9 chars): <a> b</a>] (already listed)\n"
          ++ ascii "|   |   `-- (master_cg_addr) ##CG @ 0x0000000170 [Channel Group #0 (cycles=5, record=7B = 4B data + 1B inval + 2B record_id)] (already listed)\n"
          ++ ascii "|   |-- (data_block_addr) ##DL @ 0x00000003e0 [Data List (1 fragments, equal_length=20B)]\n"
          ++ ascii "|   |   |-- (next) ##DL @ 0x0000000418 [Data List (2 fragments)]\n"
          ++ ascii "|   |   |   |-- (data_links[0]) ##DV @ 0x00000004c8 [Data block (15 payload bytes)]\n"
          ++ ascii "|   |   |   `-- (data_links[1]) ##QQ @ 0x0000000510 [Unknown data block]\n"
          ++ ascii "|   |   `-- (data_links[0]) ##DT @ 0x0000000498 [Data block (20 payload bytes)]\n"
          ++ ascii "|   `-- (comment_addr) ##MD @ 0x00000000a8 [Metadata (XML, 9 chars): <a> b</a>] (already listed)\n"
          ++ ascii "`-- (comment_addr) ##MD @ 0x00000000a8 [Metadata (XML, 9 chars): <a> b</a>] (already listed)\n";
    }
unfolding computed recording visited links gaps marked_blocks
tree = refl
