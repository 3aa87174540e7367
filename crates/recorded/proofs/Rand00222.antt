-- rand_00222.mf4, as the Rust answers it; links behind rows, path and clear list as the scripts draw them.
use mathlib.Core.Path.{◌≡◌, refl}
use mathlib.Core.List.{List, [], ◌∷◌, ◌++◌}
use Prim.Native.Nat.{ℕ}
use lib.ListN.{replicate}
use Rattle.fmt.specs.Text.{ascii}
use Rattle.mdf4.specs.Act.{ok, err, refusal}
use Rattle.mdf4.specs.Answers.{layout_exit, to_text_exit, to_tree_exit, path_exit, clear_list_exit}
use Rattle.mdf4.proofs.Computed.{computed}
use Rattle.mdf4.proofs.Recordings.{lent, counts}

recording : List ℕ
recording =
    ascii "MDF     4.11    a" ++ (227 ∷ 128 ∷ 128 ∷ 32 ∷ 32 ∷ 9 ∷ 10 ∷ []) ++ replicate 4 0 ++ (154 ∷ 1 ∷ []) ++ replicate 34 0
    ++ ascii "##HD" ++ replicate 4 0 ++ (104 ∷ []) ++ replicate 7 0 ++ (6 ∷ []) ++ replicate 7 0 ++ (197 ∷ 3 ∷ []) ++ replicate 46 0
    ++ (226 ∷ 127 ∷ 74 ∷ 33 ∷ 220 ∷ 242 ∷ 23 ∷ 242 ∷ 196 ∷ 255 ∷ 0 ∷ 0 ∷ 140 ∷ 237 ∷ 178 ∷ []) ++ replicate 17 0 ++ ascii "##TX"
    ++ replicate 4 0 ++ (25 ∷ []) ++ replicate 16 0 ++ (165 ∷ 128 ∷ 32 ∷ 71 ∷ 79 ∷ 14 ∷ 143 ∷ []) ++ ascii "##CN" ++ replicate 4 0
    ++ (160 ∷ []) ++ replicate 7 0 ++ (8 ∷ []) ++ replicate 7 0 ++ (104 ∷ 1 ∷ []) ++ replicate 14 0 ++ (168 ∷ []) ++ replicate 47 0
    ++ (3 ∷ 0 ∷ 14 ∷ 5 ∷ 7 ∷ 0 ∷ 0 ∷ 0 ∷ 16 ∷ 0 ∷ 0 ∷ 0 ∷ 190 ∷ 177 ∷ 160 ∷ 47 ∷ 21 ∷ 128 ∷ 246 ∷ 121 ∷ 107 ∷ 0 ∷ 0 ∷ 0 ∷ 27 ∷ 8 ∷ 111 ∷ 34 ∷ 91 ∷ 242 ∷ 209 ∷ 201 ∷ 181 ∷ 84 ∷ 76 ∷ 55 ∷ 16 ∷ 128 ∷ 80 ∷ 191 ∷ [])
    ++ ascii "FhFx" ++ (191 ∷ 8 ∷ 146 ∷ 178 ∷ 242 ∷ 180 ∷ 233 ∷ 37 ∷ 141 ∷ 189 ∷ 208 ∷ 241 ∷ []) ++ ascii "%2T\\"
    ++ (19 ∷ 240 ∷ 37 ∷ 198 ∷ 2 ∷ 134 ∷ 106 ∷ 112 ∷ 207 ∷ 154 ∷ 105 ∷ 199 ∷ []) ++ ascii "##CN" ++ replicate 4 0 ++ (160 ∷ [])
    ++ replicate 7 0 ++ (8 ∷ []) ++ replicate 7 0 ++ (144 ∷ 2 ∷ []) ++ replicate 6 0 ++ (8 ∷ []) ++ replicate 7 0 ++ (168 ∷ [])
    ++ replicate 48 0 ++ (2 ∷ 16 ∷ 7 ∷ 1 ∷ 0 ∷ 0 ∷ 0 ∷ 16 ∷ 0 ∷ 0 ∷ 0 ∷ 208 ∷ []) ++ ascii "e}nn%"
    ++ (251 ∷ 74 ∷ 208 ∷ 0 ∷ 0 ∷ 0 ∷ 191 ∷ 47 ∷ 138 ∷ 48 ∷ 48 ∷ 167 ∷ 11 ∷ 208 ∷ 135 ∷ 173 ∷ 233 ∷ 250 ∷ 174 ∷ 14 ∷ 0 ∷ 218 ∷ 17 ∷ 120 ∷ 194 ∷ 244 ∷ 11 ∷ 205 ∷ 228 ∷ 232 ∷ 122 ∷ 247 ∷ 114 ∷ 114 ∷ 2 ∷ 225 ∷ 184 ∷ 16 ∷ 151 ∷ [])
    ++ ascii "ve[|" ++ (132 ∷ []) ++ ascii "t(^lV"
    ++ (237 ∷ 144 ∷ 1 ∷ 162 ∷ 38 ∷ 226 ∷ 89 ∷ 167 ∷ 140 ∷ 167 ∷ 242 ∷ 36 ∷ 99 ∷ 36 ∷ 130 ∷ 32 ∷ 181 ∷ 212 ∷ 243 ∷ 88 ∷ 191 ∷ 145 ∷ 148 ∷ 242 ∷ 188 ∷ 226 ∷ 70 ∷ 224 ∷ 194 ∷ 87 ∷ 150 ∷ 23 ∷ 28 ∷ 168 ∷ 175 ∷ 29 ∷ 17 ∷ 134 ∷ 44 ∷ 124 ∷ 74 ∷ 199 ∷ 208 ∷ 166 ∷ 170 ∷ 255 ∷ 226 ∷ 130 ∷ [])
    ++ replicate 5 0 ++ (10 ∷ []) ++ replicate 15 0 ++ ascii "##SI" ++ replicate 4 0 ++ (27 ∷ []) ++ replicate 15 0
    ++ (2 ∷ 6 ∷ 228 ∷ 198 ∷ 210 ∷ 17 ∷ 133 ∷ 59 ∷ 3 ∷ 79 ∷ 18 ∷ 44 ∷ 1 ∷ 213 ∷ 41 ∷ 126 ∷ 107 ∷ 229 ∷ 144 ∷ 230 ∷ 220 ∷ 41 ∷ 104 ∷ 212 ∷ 197 ∷ 218 ∷ 208 ∷ 17 ∷ [])
    ++ ascii "`u#e" ++ (155 ∷ 55 ∷ 205 ∷ 76 ∷ 39 ∷ 130 ∷ 146 ∷ 81 ∷ 13 ∷ 240 ∷ 126 ∷ 193 ∷ 212 ∷ 119 ∷ 242 ∷ 253 ∷ []) ++ ascii "##CN"
    ++ replicate 4 0 ++ (160 ∷ []) ++ replicate 7 0 ++ (8 ∷ []) ++ replicate 15 0 ++ (200 ∷ []) ++ replicate 7 0 ++ (48 ∷ 2 ∷ [])
    ++ replicate 6 0 ++ (72 ∷ 2 ∷ []) ++ replicate 38 0
    ++ (1 ∷ 2 ∷ 255 ∷ 6 ∷ 7 ∷ 0 ∷ 0 ∷ 0 ∷ 64 ∷ 0 ∷ 0 ∷ 0 ∷ 46 ∷ 249 ∷ 87 ∷ 85 ∷ 196 ∷ 156 ∷ 38 ∷ 92 ∷ 53 ∷ 0 ∷ 0 ∷ 0 ∷ 222 ∷ 149 ∷ 23 ∷ 237 ∷ 149 ∷ 49 ∷ 199 ∷ 155 ∷ 19 ∷ 248 ∷ 115 ∷ 199 ∷ 248 ∷ 44 ∷ 73 ∷ 171 ∷ 5 ∷ [])
    ++ ascii "r>V@e"
    ++ (162 ∷ 253 ∷ 233 ∷ 7 ∷ 204 ∷ 58 ∷ 169 ∷ 177 ∷ 236 ∷ 172 ∷ 252 ∷ 35 ∷ 79 ∷ 18 ∷ 83 ∷ 139 ∷ 67 ∷ 234 ∷ 2 ∷ 192 ∷ 22 ∷ 151 ∷ 158 ∷ 26 ∷ [])
    ++ ascii "d%##CG" ++ replicate 4 0 ++ (104 ∷ []) ++ replicate 7 0 ++ (6 ∷ []) ++ replicate 15 0 ++ (200 ∷ []) ++ replicate 31 0
    ++ (8 ∷ []) ++ replicate 7 0
    ++ (219 ∷ 195 ∷ 67 ∷ 143 ∷ 246 ∷ 0 ∷ 0 ∷ 0 ∷ 255 ∷ 255 ∷ 255 ∷ 255 ∷ 255 ∷ 255 ∷ 255 ∷ 255 ∷ 9 ∷ 0 ∷ 46 ∷ []) ++ replicate 5 0
    ++ (1 ∷ []) ++ replicate 7 0 ++ ascii "##DT" ++ replicate 4 0 ++ (29 ∷ []) ++ replicate 15 0
    ++ (138 ∷ 197 ∷ 150 ∷ 193 ∷ 9 ∷ 99 ∷ 59 ∷ 10 ∷ 103 ∷ 34 ∷ 248 ∷ 203 ∷ 175 ∷ 49 ∷ 35 ∷ 90 ∷ 190 ∷ 3 ∷ 76 ∷ 28 ∷ []) ++ ascii "`##DG"
    ++ replicate 4 0 ++ (64 ∷ []) ++ replicate 7 0 ++ (4 ∷ []) ++ replicate 15 0 ++ (48 ∷ 3 ∷ []) ++ replicate 6 0 ++ (152 ∷ 3 ∷ [])
    ++ replicate 22 0 ++ (167 ∷ 234 ∷ []) ++ ascii "Q##FH" ++ replicate 4 0 ++ (56 ∷ []) ++ replicate 7 0 ++ (2 ∷ []) ++ replicate 39 0

visited : List ℕ
visited =
    0 ∷ 64 ∷ 965 ∷ 816 ∷ 8 ∷ 200 ∷ 168 ∷ 360 ∷ 656 ∷ 560 ∷ 584 ∷ 920 ∷ []

links : List ℕ
links =
    965 ∷ 1195647780 ∷ 0 ∷ 0 ∷ 0 ∷ 0 ∷ 0 ∷ 0 ∷ 0 ∷ 0 ∷ 0 ∷ 0 ∷ 0 ∷ 0 ∷ 816 ∷ 1195582244 ∷ 920 ∷ 1413751588 ∷ 0 ∷ 0 ∷ 0 ∷ 0 ∷ 200
    ∷ 1313022756 ∷ 0 ∷ 0 ∷ 0 ∷ 0 ∷ 0 ∷ 0 ∷ 8 ∷ 825306677 ∷ 360 ∷ 1313022756 ∷ 0 ∷ 0 ∷ 168 ∷ 1481909028 ∷ 0 ∷ 0 ∷ 0 ∷ 0 ∷ 0 ∷ 0 ∷ 0 ∷ 0 ∷ 0
    ∷ 0 ∷ 656 ∷ 1313022756 ∷ 8 ∷ 825306677 ∷ 168 ∷ 1481909028 ∷ 0 ∷ 0 ∷ 0 ∷ 0 ∷ 0 ∷ 0 ∷ 0 ∷ 0 ∷ 0 ∷ 0 ∷ 0 ∷ 0 ∷ 200 ∷ 1313022756 ∷ 560
    ∷ 8577792 ∷ 584 ∷ 1230185252 ∷ 0 ∷ 0 ∷ 0 ∷ 0 ∷ 0 ∷ 0 ∷ 0 ∷ 0 ∷ 0 ∷ 0 ∷ 0 ∷ 0 ∷ 0 ∷ 0 ∷ []

gaps : List ℕ
gaps =
    []

blocks : List ℕ
blocks =
    0 ∷ 64 ∷ 64 ∷ 1145643811 ∷ 1 ∷ 0 ∷ 0 ∷ 0 ∷ 0 ∷ 0 ∷ 0 ∷ 0 ∷ 0 ∷ 0 ∷ 8 ∷ 723144539136648041 ∷ 723144539136648033 ∷ 825306676 ∷ 12 ∷ 0 ∷ 0
    ∷ 0 ∷ 0 ∷ 0 ∷ 0 ∷ 0 ∷ 816 ∷ 5 ∷ 64 ∷ 168 ∷ 104 ∷ 1145578275 ∷ 2 ∷ 0 ∷ 0 ∷ 6 ∷ 0 ∷ 0 ∷ 0 ∷ 0 ∷ 0 ∷ 0 ∷ 168 ∷ 193 ∷ 25 ∷ 1481909027 ∷ 7
    ∷ 0 ∷ 0 ∷ 0 ∷ 0 ∷ 0 ∷ 0 ∷ 0 ∷ 200 ∷ 2 ∷ 200 ∷ 360 ∷ 160 ∷ 1313022755 ∷ 5 ∷ 0 ∷ 16 ∷ 8 ∷ 0 ∷ 0 ∷ 0 ∷ 0 ∷ 816 ∷ 1 ∷ 360 ∷ 520 ∷ 160
    ∷ 1313022755 ∷ 5 ∷ 1 ∷ 24 ∷ 8 ∷ 0 ∷ 0 ∷ 0 ∷ 0 ∷ 200 ∷ 0 ∷ 560 ∷ 570 ∷ 10 ∷ 8577791 ∷ 12 ∷ 0 ∷ 0 ∷ 0 ∷ 0 ∷ 0 ∷ 0 ∷ 0 ∷ 656 ∷ 2 ∷ 584
    ∷ 611 ∷ 27 ∷ 1230185251 ∷ 6 ∷ 0 ∷ 40 ∷ 3 ∷ 0 ∷ 0 ∷ 0 ∷ 0 ∷ 656 ∷ 3 ∷ 656 ∷ 816 ∷ 160 ∷ 1313022755 ∷ 5 ∷ 2 ∷ 32 ∷ 8 ∷ 0 ∷ 0 ∷ 0 ∷ 0 ∷ 360
    ∷ 0 ∷ 816 ∷ 920 ∷ 104 ∷ 1195582243 ∷ 4 ∷ 0 ∷ 10 ∷ 6 ∷ 1 ∷ 0 ∷ 0 ∷ 0 ∷ 965 ∷ 1 ∷ 920 ∷ 949 ∷ 29 ∷ 1413751587 ∷ 9 ∷ 0 ∷ 0 ∷ 0 ∷ 1 ∷ 0 ∷ 0
    ∷ 0 ∷ 965 ∷ 2 ∷ 965 ∷ 1029 ∷ 64 ∷ 1195647779 ∷ 3 ∷ 0 ∷ 6 ∷ 4 ∷ 0 ∷ 0 ∷ 0 ∷ 0 ∷ 64 ∷ 0 ∷ []

layout : layout_exit (lent 12 168 86 0 0 0) recording
    ≡ record {
      answer = ok (counts 12 12 43 0 0);
      visited = visited;
      blocks = blocks;
      links = links;
      gaps = gaps;
      scratch = replicate 0 0;
      out =
          [];
    }
unfolding computed recording visited links gaps blocks
layout = refl

text : to_text_exit (lent 12 168 86 0 0 4878) recording
    ≡ record {
      answer = ok (counts 12 12 43 0 4878);
      visited = visited;
      blocks = blocks;
      links = links;
      gaps = gaps;
      scratch = replicate 0 0;
      out =
          ascii "MDF block layout (file size: 1088 bytes / 0x440)\n" ++ (10 ∷ []) ++ ascii "Blocks (12 total), sorted by offset:\n"
          ++ ascii "offset        end                 size  type    description\n"
          ++ ascii "------------  ------------  ----------  ------  ------------------------------------------------------------\n"
          ++ ascii "0x0000000000  0x0000000040          64  ##ID    Identification: version='4.11', program='a'\n"
          ++ ascii "                                            version_number=410, standard_unfinalized_flags=0x0000, custom_unfinalized_flags=0x0000\n"
          ++ ascii "0x0000000008  0xa0920208080e369  723144539136648033  4.11    Unknown block (not walked further)\n"
          ++ ascii "0x0000000040  0x00000000a8         104  ##HD    Header Block (abs_time=17444678708908163042 ns, tz=-60 min)\n"
          ++ ascii "                                            flags=0xb2, time_flags=0x8c, time_quality=0xed\n"
          ++ ascii "0x00000000a8  0x00000000c1          25  ##TX    Text: \"\" (0 chars)\n"
          ++ ascii "0x00000000c8  0x0000000168         160  ##CN    Channel #0 '' (ch_type=3, sync=0, dtype=CanOpenTime, 16b @ byte=7 bit=5)\n"
          ++ ascii "                                            flags=0x2fa0b1be, pos_invalidation_bit=2046197781, precision=107\n"
          ++ ascii "0x0000000168  0x0000000208         160  ##CN    Channel #1 '' (ch_type=0, sync=2, dtype=ComplexBE, 16b @ byte=1 bit=7)\n"
          ++ ascii "                                            flags=0x6e7d65d0, pos_invalidation_bit=1257973102, precision=208\n"
          ++ ascii "0x0000000230  0x000000023a          10  " ++ (239 ∷ 191 ∷ 189 ∷ 239 ∷ 191 ∷ 189 ∷ []) ++ replicate 1 0
          ++ ascii "     Unknown block (not walked further)\n"
          ++ ascii "0x0000000248  0x0000000263          27  ##SI    Source (type=2, bus_type=6, flags=0xe4)\n"
          ++ ascii "0x0000000290  0x0000000330         160  ##CN    Channel #2 '' (ch_type=1, sync=2, dtype=Unknown(()), 64b @ byte=7 bit=6)\n"
          ++ ascii "                                            flags=0x5557f92e, pos_invalidation_bit=1546034372, precision=53\n"
          ++ ascii "0x0000000330  0x0000000398         104  ##CG    Channel Group #0 (cycles=18446744073709551615, record=1B = 1B data + 0B inval + 0B record_id)\n"
          ++ ascii "                                            flags=0x0009, record_id=1058965537755\n"
          ++ ascii "0x0000000398  0x00000003b5          29  ##DT    Data block (5 payload bytes)\n"
          ++ ascii "                                            payload=5 bytes, header=24 bytes, record layout = 1B (record_id=0B + data + invalidation=0B), records=5\n"
          ++ ascii "0x00000003c5  0x0000000405          64  ##DG    Data Group #0 (record_id_len=0)\n" ++ (10 ∷ []) ++ ascii "Block links:\n"
          ++ ascii "  ##HD @ 0x0000000040 (Header Block (abs_time=17444678708908163042 ns, tz=-60 min))\n"
          ++ ascii "    first_dg_addr                -> 0x00000003c5 (##DG)\n" ++ ascii "    file_history_addr            -> (null)\n"
          ++ ascii "    channel_tree_addr            -> (null)\n" ++ ascii "    first_attachment_addr        -> (null)\n"
          ++ ascii "    first_event_addr             -> (null)\n" ++ ascii "    comment_addr                 -> (null)\n"
          ++ ascii "  ##CN @ 0x00000000c8 (Channel #0 '' (ch_type=3, sync=0, dtype=CanOpenTime, 16b @ byte=7 bit=5))\n"
          ++ ascii "    next_ch_addr                 -> 0x0000000168 (##CN)\n" ++ ascii "    component_addr               -> (null)\n"
          ++ ascii "    name_addr                    -> 0x00000000a8 (##TX)\n" ++ ascii "    source_addr                  -> (null)\n"
          ++ ascii "    conversion_addr              -> (null)\n" ++ ascii "    data                         -> (null)\n"
          ++ ascii "    unit_addr                    -> (null)\n" ++ ascii "    comment_addr                 -> (null)\n"
          ++ ascii "  ##CN @ 0x0000000168 (Channel #1 '' (ch_type=0, sync=2, dtype=ComplexBE, 16b @ byte=1 bit=7))\n"
          ++ ascii "    next_ch_addr                 -> 0x0000000290 (##CN)\n"
          ++ ascii "    component_addr               -> 0x0000000008 (4.11)\n"
          ++ ascii "    name_addr                    -> 0x00000000a8 (##TX)\n" ++ ascii "    source_addr                  -> (null)\n"
          ++ ascii "    conversion_addr              -> (null)\n" ++ ascii "    data                         -> (null)\n"
          ++ ascii "    unit_addr                    -> (null)\n" ++ ascii "    comment_addr                 -> (null)\n"
          ++ ascii "  ##SI @ 0x0000000248 (Source (type=2, bus_type=6, flags=0xe4))\n" ++ ascii "    name_addr                    -> (null)\n"
          ++ ascii "    path_addr                    -> (null)\n" ++ ascii "    comment_addr                 -> (null)\n"
          ++ ascii "  ##CN @ 0x0000000290 (Channel #2 '' (ch_type=1, sync=2, dtype=Unknown(()), 64b @ byte=7 bit=6))\n"
          ++ ascii "    next_ch_addr                 -> (null)\n" ++ ascii "    component_addr               -> 0x00000000c8 (##CN)\n"
          ++ ascii "    name_addr                    -> 0x0000000230 (" ++ (239 ∷ 191 ∷ 189 ∷ 239 ∷ 191 ∷ 189 ∷ []) ++ replicate 1 0
          ++ ascii ")\n" ++ ascii "    source_addr                  -> 0x0000000248 (##SI)\n"
          ++ ascii "    conversion_addr              -> (null)\n" ++ ascii "    data                         -> (null)\n"
          ++ ascii "    unit_addr                    -> (null)\n" ++ ascii "    comment_addr                 -> (null)\n"
          ++ ascii "  ##CG @ 0x0000000330 (Channel Group #0 (cycles=18446744073709551615, record=1B = 1B data + 0B inval + 0B record_id))\n"
          ++ ascii "    next_cg_addr                 -> (null)\n" ++ ascii "    first_ch_addr                -> 0x00000000c8 (##CN)\n"
          ++ ascii "    acq_name_addr                -> (null)\n" ++ ascii "    acq_source_addr              -> (null)\n"
          ++ ascii "    first_sample_reduction_addr  -> (null)\n" ++ ascii "    comment_addr                 -> 0x0000000008 (4.11)\n"
          ++ ascii "  ##DG @ 0x00000003c5 (Data Group #0 (record_id_len=0))\n" ++ ascii "    next_dg_addr                 -> (null)\n"
          ++ ascii "    first_cg_addr                -> 0x0000000330 (##CG)\n"
          ++ ascii "    data_block_addr              -> 0x0000000398 (##DT)\n" ++ ascii "    comment_addr                 -> (null)\n";
    }
unfolding computed recording visited links gaps blocks
text = refl

clear : clear_list_exit (lent 12 168 86 0 74 24) recording
    ≡ record {
      answer = ok (counts 12 12 43 0 24);
      visited = visited;
      blocks = blocks;
      links = links;
      gaps = gaps;
      scratch = replicate 74 0;
      out =
          67 ∷ 76 ∷ 82 ∷ 1 ∷ 0 ∷ 0 ∷ 0 ∷ 0 ∷ 64 ∷ 4 ∷ 0 ∷ 0 ∷ 0 ∷ 0 ∷ 0 ∷ 0 ∷ 0 ∷ 0 ∷ 0 ∷ 0 ∷ 0 ∷ 0 ∷ 0 ∷ 0 ∷ [];
    }
unfolding computed recording visited links gaps blocks
clear = refl

path : path_exit 560 (lent 12 168 86 0 0 7) recording
    ≡ record {
      answer = ok (counts 12 12 43 0 7);
      visited = visited;
      blocks = blocks;
      links = links;
      gaps = gaps;
      scratch = replicate 0 0;
      out =
          64 ∷ 965 ∷ 816 ∷ 200 ∷ 360 ∷ 656 ∷ 560 ∷ [];
    }
unfolding computed recording visited links gaps blocks
path = refl

path_short : path_exit 560 (lent 12 168 86 0 0 6) recording
    ≡ record { answer = err (refusal 13 0 6 7); visited = replicate 12 0; blocks = replicate 168 0; links = replicate 86 0; gaps = replicate 0 0; scratch = replicate 0 0; out = replicate 6 0 }
unfolding computed recording
path_short = refl

marked_blocks : List ℕ
marked_blocks =
    0 ∷ 64 ∷ 64 ∷ 1145643811 ∷ 1 ∷ 0 ∷ 0 ∷ 0 ∷ 0 ∷ 0 ∷ 0 ∷ 1 ∷ 0 ∷ 0 ∷ 8 ∷ 723144539136648041 ∷ 723144539136648033 ∷ 825306676 ∷ 12 ∷ 0 ∷ 0
    ∷ 0 ∷ 0 ∷ 0 ∷ 0 ∷ 1 ∷ 816 ∷ 5 ∷ 64 ∷ 168 ∷ 104 ∷ 1145578275 ∷ 2 ∷ 0 ∷ 0 ∷ 6 ∷ 0 ∷ 0 ∷ 0 ∷ 1 ∷ 0 ∷ 0 ∷ 168 ∷ 193 ∷ 25 ∷ 1481909027 ∷ 7
    ∷ 0 ∷ 0 ∷ 0 ∷ 0 ∷ 0 ∷ 0 ∷ 1 ∷ 200 ∷ 2 ∷ 200 ∷ 360 ∷ 160 ∷ 1313022755 ∷ 5 ∷ 0 ∷ 16 ∷ 8 ∷ 0 ∷ 0 ∷ 0 ∷ 1 ∷ 816 ∷ 1 ∷ 360 ∷ 520 ∷ 160
    ∷ 1313022755 ∷ 5 ∷ 1 ∷ 24 ∷ 8 ∷ 0 ∷ 0 ∷ 0 ∷ 1 ∷ 200 ∷ 0 ∷ 560 ∷ 570 ∷ 10 ∷ 8577791 ∷ 12 ∷ 0 ∷ 0 ∷ 0 ∷ 0 ∷ 0 ∷ 0 ∷ 1 ∷ 656 ∷ 2 ∷ 584
    ∷ 611 ∷ 27 ∷ 1230185251 ∷ 6 ∷ 0 ∷ 40 ∷ 3 ∷ 0 ∷ 0 ∷ 0 ∷ 1 ∷ 656 ∷ 3 ∷ 656 ∷ 816 ∷ 160 ∷ 1313022755 ∷ 5 ∷ 2 ∷ 32 ∷ 8 ∷ 0 ∷ 0 ∷ 0 ∷ 1 ∷ 360
    ∷ 0 ∷ 816 ∷ 920 ∷ 104 ∷ 1195582243 ∷ 4 ∷ 0 ∷ 10 ∷ 6 ∷ 1 ∷ 0 ∷ 0 ∷ 1 ∷ 965 ∷ 1 ∷ 920 ∷ 949 ∷ 29 ∷ 1413751587 ∷ 9 ∷ 0 ∷ 0 ∷ 0 ∷ 1 ∷ 0 ∷ 0
    ∷ 1 ∷ 965 ∷ 2 ∷ 965 ∷ 1029 ∷ 64 ∷ 1195647779 ∷ 3 ∷ 0 ∷ 6 ∷ 4 ∷ 0 ∷ 0 ∷ 0 ∷ 1 ∷ 64 ∷ 0 ∷ []

tree : to_tree_exit (lent 12 168 86 0 0 1593) recording
    ≡ record {
      answer = ok (counts 12 12 43 0 1593);
      visited = visited;
      blocks = marked_blocks;
      links = links;
      gaps = gaps;
      scratch = replicate 0 0;
      out =
          ascii "##ID @ 0x0000000000 [Identification: version='4.11', program='a']\n"
          ++ ascii "4.11 @ 0x0000000008 [Unknown block (not walked further)]\n"
          ++ ascii "##HD @ 0x0000000040 [Header Block (abs_time=17444678708908163042 ns, tz=-60 min)]\n"
          ++ ascii "`-- (first_dg_addr) ##DG @ 0x00000003c5 [Data Group #0 (record_id_len=0)]\n"
          ++ ascii "    |-- (first_cg_addr) ##CG @ 0x0000000330 [Channel Group #0 (cycles=18446744073709551615, record=1B = 1B data + 0B inval + 0B record_id)]\n"
          ++ ascii "    |   |-- (first_ch_addr) ##CN @ 0x00000000c8 [Channel #0 '' (ch_type=3, sync=0, dtype=CanOpenTime, 16b @ byte=7 bit=5)]\n"
          ++ ascii "    |   |   |-- (next_ch_addr) ##CN @ 0x0000000168 [Channel #1 '' (ch_type=0, sync=2, dtype=ComplexBE, 16b @ byte=1 bit=7)]\n"
          ++ ascii "    |   |   |   |-- (next_ch_addr) ##CN @ 0x0000000290 [Channel #2 '' (ch_type=1, sync=2, dtype=Unknown(()), 64b @ byte=7 bit=6)]\n"
          ++ ascii "    |   |   |   |   |-- (component_addr) ##CN @ 0x00000000c8 [Channel #0 '' (ch_type=3, sync=0, dtype=CanOpenTime, 16b @ byte=7 bit=5)] (already listed)\n"
          ++ ascii "    |   |   |   |   |-- (name_addr) " ++ (239 ∷ 191 ∷ 189 ∷ 239 ∷ 191 ∷ 189 ∷ []) ++ replicate 1 0
          ++ ascii " @ 0x0000000230 [Unknown block (not walked further)]\n"
          ++ ascii "    |   |   |   |   `-- (source_addr) ##SI @ 0x0000000248 [Source (type=2, bus_type=6, flags=0xe4)]\n"
          ++ ascii "    |   |   |   |-- (component_addr) 4.11 @ 0x0000000008 [Unknown block (not walked further)] (already listed)\n"
          ++ ascii "    |   |   |   `-- (name_addr) ##TX @ 0x00000000a8 [Text: \"\" (0 chars)]\n"
          ++ ascii "    |   |   `-- (name_addr) ##TX @ 0x00000000a8 [Text: \"\" (0 chars)] (already listed)\n"
          ++ ascii "    |   `-- (comment_addr) 4.11 @ 0x0000000008 [Unknown block (not walked further)] (already listed)\n"
          ++ ascii "    `-- (data_block_addr) ##DT @ 0x0000000398 [Data block (5 payload bytes)]\n";
    }
unfolding computed recording visited links gaps marked_blocks
tree = refl
