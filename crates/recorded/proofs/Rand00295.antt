-- rand_00295.mf4, as the Rust answers it; links behind rows, path and clear list as the scripts draw them.
use mathlib.Core.Path.{◌≡◌, refl}
use mathlib.Core.List.{List, [], ◌∷◌, ◌++◌}
use Prim.Native.Nat.{ℕ}
use lib.ListN.{replicate}
use Rattle.fmt.specs.Text.{ascii}
use Rattle.mdf4.specs.Act.{ok, err, refusal}
use Rattle.mdf4.specs.Answers.{layout_exit, to_text_exit, to_tree_exit, path_exit, clear_list_exit}
use Rattle.mdf4.proofs.Computed.{computed}
use Rattle.mdf4.proofs.Recordings.{lent, counts}

recording : List ℕ
recording =
    ascii "MDF     5       " ++ (255 ∷ 254 ∷ []) ++ ascii " ab " ++ (0 ∷ 32 ∷ []) ++ replicate 4 0 ++ (154 ∷ 1 ∷ []) ++ replicate 30 0
    ++ (1 ∷ 0 ∷ 0 ∷ 0 ∷ []) ++ ascii "##HD" ++ replicate 4 0 ++ (104 ∷ []) ++ replicate 7 0 ++ (6 ∷ []) ++ replicate 7 0 ++ (224 ∷ 1 ∷ [])
    ++ replicate 46 0 ++ (98 ∷ 33 ∷ 184 ∷ 98 ∷ 122 ∷ 189 ∷ 30 ∷ 171 ∷ 255 ∷ 127 ∷ 0 ∷ 0 ∷ 229 ∷ 181 ∷ 10 ∷ []) ++ replicate 17 0
    ++ ascii "##MD" ++ replicate 4 0 ++ (37 ∷ []) ++ replicate 15 0
    ++ (237 ∷ 0 ∷ 172 ∷ 160 ∷ 98 ∷ 98 ∷ 130 ∷ 160 ∷ 159 ∷ 144 ∷ 98 ∷ 144 ∷ 237 ∷ []) ++ replicate 4 0 ++ ascii "##CG" ++ replicate 4 0
    ++ (144 ∷ []) ++ replicate 7 0 ++ (11 ∷ []) ++ replicate 23 0 ++ (168 ∷ []) ++ replicate 15 0 ++ (64 ∷ []) ++ replicate 7 0
    ++ (168 ∷ []) ++ replicate 23 0 ++ (64 ∷ []) ++ replicate 23 0 ++ (150 ∷ 76 ∷ 6 ∷ 35 ∷ 27 ∷ 0 ∷ 0 ∷ 0 ∷ 7 ∷ []) ++ replicate 9 0
    ++ (46 ∷ []) ++ replicate 9 0 ++ (255 ∷ 255 ∷ 255 ∷ 255 ∷ []) ++ replicate 7 0 ++ ascii "##DT" ++ replicate 4 0 ++ (124 ∷ [])
    ++ replicate 15 0
    ++ (77 ∷ 105 ∷ 90 ∷ 244 ∷ 158 ∷ 26 ∷ 145 ∷ 98 ∷ 64 ∷ 52 ∷ 225 ∷ 69 ∷ 132 ∷ 162 ∷ 174 ∷ 205 ∷ 18 ∷ 143 ∷ 245 ∷ 11 ∷ 72 ∷ 132 ∷ 41 ∷ 177 ∷ 230 ∷ 92 ∷ 25 ∷ 53 ∷ 252 ∷ 111 ∷ 136 ∷ 10 ∷ 0 ∷ 255 ∷ 76 ∷ 244 ∷ 159 ∷ 173 ∷ 177 ∷ 104 ∷ 80 ∷ 221 ∷ 219 ∷ 255 ∷ 11 ∷ 124 ∷ 223 ∷ 80 ∷ 170 ∷ 206 ∷ 120 ∷ 84 ∷ 104 ∷ 15 ∷ 72 ∷ 22 ∷ 241 ∷ 224 ∷ 112 ∷ 41 ∷ [])
    ++ replicate 5 0 ++ ascii "##FH" ++ replicate 4 0 ++ (26 ∷ []) ++ replicate 22 0 ++ ascii "##DG" ++ replicate 4 0 ++ (64 ∷ [])
    ++ replicate 7 0 ++ (4 ∷ []) ++ replicate 15 0 ++ (209 ∷ []) ++ replicate 7 0 ++ (104 ∷ 1 ∷ []) ++ replicate 6 0 ++ (8 ∷ [])
    ++ replicate 7 0 ++ (1 ∷ []) ++ replicate 15 0 ++ ascii "##FH" ++ replicate 4 0 ++ (56 ∷ []) ++ replicate 7 0 ++ (2 ∷ [])
    ++ replicate 39 0

visited : List ℕ
visited =
    0 ∷ 64 ∷ 480 ∷ 8 ∷ 209 ∷ 168 ∷ 360 ∷ []

links : List ℕ
links =
    480 ∷ 1195647780 ∷ 0 ∷ 0 ∷ 0 ∷ 0 ∷ 0 ∷ 0 ∷ 0 ∷ 0 ∷ 0 ∷ 0 ∷ 0 ∷ 0 ∷ 209 ∷ 1195582244 ∷ 360 ∷ 1413751588 ∷ 8 ∷ 538976310 ∷ 0 ∷ 0 ∷ 0 ∷ 0
    ∷ 168 ∷ 1145905956 ∷ 0 ∷ 0 ∷ 64 ∷ 1145578276 ∷ 168 ∷ 1145905956 ∷ 0 ∷ 0 ∷ []

gaps : List ℕ
gaps =
    []

blocks : List ℕ
blocks =
    0 ∷ 64 ∷ 64 ∷ 1145643811 ∷ 1 ∷ 0 ∷ 0 ∷ 0 ∷ 0 ∷ 0 ∷ 0 ∷ 0 ∷ 0 ∷ 0 ∷ 8 ∷ 2305878616122130183 ∷ 2305878616122130175 ∷ 538976309 ∷ 12 ∷ 0
    ∷ 0 ∷ 0 ∷ 0 ∷ 0 ∷ 0 ∷ 0 ∷ 480 ∷ 3 ∷ 64 ∷ 168 ∷ 104 ∷ 1145578275 ∷ 2 ∷ 0 ∷ 0 ∷ 6 ∷ 0 ∷ 0 ∷ 0 ∷ 0 ∷ 0 ∷ 0 ∷ 168 ∷ 205 ∷ 37 ∷ 1145905955
    ∷ 8 ∷ 0 ∷ 0 ∷ 0 ∷ 0 ∷ 0 ∷ 0 ∷ 0 ∷ 209 ∷ 2 ∷ 209 ∷ 353 ∷ 144 ∷ 1195582243 ∷ 4 ∷ 0 ∷ 10 ∷ 7 ∷ 4294967296 ∷ 4294967295 ∷ 1 ∷ 0 ∷ 480 ∷ 1
    ∷ 360 ∷ 484 ∷ 124 ∷ 1413751587 ∷ 9 ∷ 0 ∷ 0 ∷ 0 ∷ 4294967296 ∷ 4294967295 ∷ 1 ∷ 0 ∷ 480 ∷ 2 ∷ 480 ∷ 544 ∷ 64 ∷ 1195647779 ∷ 3 ∷ 0 ∷ 6 ∷ 4
    ∷ 0 ∷ 0 ∷ 0 ∷ 0 ∷ 64 ∷ 0 ∷ []

layout : layout_exit (lent 7 98 34 0 0 0) recording
    ≡ record {
      answer = ok (counts 7 7 17 0 0);
      visited = visited;
      blocks = blocks;
      links = links;
      gaps = gaps;
      scratch = replicate 0 0;
      out =
          [];
    }
unfolding computed recording visited links gaps blocks
layout = refl

text : to_text_exit (lent 7 98 34 0 0 2548) recording
    ≡ record {
      answer = ok (counts 7 7 17 0 2548);
      visited = visited;
      blocks = blocks;
      links = links;
      gaps = gaps;
      scratch = replicate 0 0;
      out =
          ascii "MDF block layout (file size: 608 bytes / 0x260)\n" ++ (10 ∷ []) ++ ascii "Blocks (7 total), sorted by offset:\n"
          ++ ascii "offset        end                 size  type    description\n"
          ++ ascii "------------  ------------  ----------  ------  ------------------------------------------------------------\n"
          ++ ascii "0x0000000000  0x0000000040          64  ##ID    Identification: version='5', program='"
          ++ (239 ∷ 191 ∷ 189 ∷ 239 ∷ 191 ∷ 189 ∷ []) ++ ascii " ab " ++ replicate 1 0 ++ ascii "'\n"
          ++ ascii "                                            version_number=410, standard_unfinalized_flags=0x0001, custom_unfinalized_flags=0x0000\n"
          ++ ascii "0x0000000008  0x200020626120ff07  2305878616122130175  5       Unknown block (not walked further)\n"
          ++ ascii "0x0000000040  0x00000000a8         104  ##HD    Header Block (abs_time=12330501163126890850 ns, tz=32767 min)\n"
          ++ ascii "                                            flags=0x0a, time_flags=0xe5, time_quality=0xb5\n"
          ++ ascii "0x00000000a8  0x00000000cd          37  ##MD    Metadata (XML, 31 chars): " ++ (239 ∷ 191 ∷ 189 ∷ []) ++ replicate 1 0
          ++ (239 ∷ 191 ∷ 189 ∷ 239 ∷ 191 ∷ 189 ∷ []) ++ ascii "bb"
          ++ (239 ∷ 191 ∷ 189 ∷ 239 ∷ 191 ∷ 189 ∷ 239 ∷ 191 ∷ 189 ∷ 239 ∷ 191 ∷ 189 ∷ []) ++ ascii "b"
          ++ (239 ∷ 191 ∷ 189 ∷ 239 ∷ 191 ∷ 189 ∷ 10 ∷ [])
          ++ ascii "0x00000000d1  0x0000000161         144  ##CG    Channel Group #0 (cycles=7, record=4294967296B = 0B data + 4294967295B inval + 1B record_id)\n"
          ++ ascii "                                            flags=0x0000, record_id=116551732374\n"
          ++ ascii "0x0000000168  0x00000001e4         124  ##DT    Data block (100 payload bytes)\n"
          ++ ascii "                                            payload=100 bytes, header=24 bytes, record layout = 4294967296B (record_id=1B + data + invalidation=4294967295B), records=0, trailing=100B\n"
          ++ ascii "0x00000001e0  0x0000000220          64  ##DG    Data Group #0 (record_id_len=1)\n" ++ (10 ∷ []) ++ ascii "Block links:\n"
          ++ ascii "  ##HD @ 0x0000000040 (Header Block (abs_time=12330501163126890850 ns, tz=32767 min))\n"
          ++ ascii "    first_dg_addr                -> 0x00000001e0 (##DG)\n" ++ ascii "    file_history_addr            -> (null)\n"
          ++ ascii "    channel_tree_addr            -> (null)\n" ++ ascii "    first_attachment_addr        -> (null)\n"
          ++ ascii "    first_event_addr             -> (null)\n" ++ ascii "    comment_addr                 -> (null)\n"
          ++ ascii "  ##CG @ 0x00000000d1 (Channel Group #0 (cycles=7, record=4294967296B = 0B data + 4294967295B inval + 1B record_id))\n"
          ++ ascii "    next_cg_addr                 -> (null)\n" ++ ascii "    first_ch_addr                -> (null)\n"
          ++ ascii "    acq_name_addr                -> 0x00000000a8 (##MD)\n" ++ ascii "    acq_source_addr              -> (null)\n"
          ++ ascii "    first_sample_reduction_addr  -> 0x0000000040 (##HD)\n"
          ++ ascii "    comment_addr                 -> 0x00000000a8 (##MD)\n" ++ ascii "    master_cg_addr               -> (null)\n"
          ++ ascii "  ##DG @ 0x00000001e0 (Data Group #0 (record_id_len=1))\n" ++ ascii "    next_dg_addr                 -> (null)\n"
          ++ ascii "    first_cg_addr                -> 0x00000000d1 (##CG)\n"
          ++ ascii "    data_block_addr              -> 0x0000000168 (##DT)\n"
          ++ ascii "    comment_addr                 -> 0x0000000008 (5   )\n";
    }
unfolding computed recording visited links gaps blocks
text = refl

clear : clear_list_exit (lent 7 98 34 0 40 24) recording
    ≡ record { answer = err (refusal 16 60 1 0); visited = replicate 7 0; blocks = replicate 98 0; links = replicate 34 0; gaps = replicate 0 0; scratch = replicate 40 0; out = replicate 24 0 }
unfolding computed recording
clear = refl

path : path_exit 168 (lent 7 98 34 0 0 4) recording
    ≡ record {
      answer = ok (counts 7 7 17 0 4);
      visited = visited;
      blocks = blocks;
      links = links;
      gaps = gaps;
      scratch = replicate 0 0;
      out =
          64 ∷ 480 ∷ 209 ∷ 168 ∷ [];
    }
unfolding computed recording visited links gaps blocks
path = refl

path_short : path_exit 168 (lent 7 98 34 0 0 3) recording
    ≡ record { answer = err (refusal 13 0 3 4); visited = replicate 7 0; blocks = replicate 98 0; links = replicate 34 0; gaps = replicate 0 0; scratch = replicate 0 0; out = replicate 3 0 }
unfolding computed recording
path_short = refl

marked_blocks : List ℕ
marked_blocks =
    0 ∷ 64 ∷ 64 ∷ 1145643811 ∷ 1 ∷ 0 ∷ 0 ∷ 0 ∷ 0 ∷ 0 ∷ 0 ∷ 1 ∷ 0 ∷ 0 ∷ 8 ∷ 2305878616122130183 ∷ 2305878616122130175 ∷ 538976309 ∷ 12 ∷ 0
    ∷ 0 ∷ 0 ∷ 0 ∷ 0 ∷ 0 ∷ 1 ∷ 480 ∷ 3 ∷ 64 ∷ 168 ∷ 104 ∷ 1145578275 ∷ 2 ∷ 0 ∷ 0 ∷ 6 ∷ 0 ∷ 0 ∷ 0 ∷ 1 ∷ 0 ∷ 0 ∷ 168 ∷ 205 ∷ 37 ∷ 1145905955
    ∷ 8 ∷ 0 ∷ 0 ∷ 0 ∷ 0 ∷ 0 ∷ 0 ∷ 1 ∷ 209 ∷ 2 ∷ 209 ∷ 353 ∷ 144 ∷ 1195582243 ∷ 4 ∷ 0 ∷ 10 ∷ 7 ∷ 4294967296 ∷ 4294967295 ∷ 1 ∷ 1 ∷ 480 ∷ 1
    ∷ 360 ∷ 484 ∷ 124 ∷ 1413751587 ∷ 9 ∷ 0 ∷ 0 ∷ 0 ∷ 4294967296 ∷ 4294967295 ∷ 1 ∷ 1 ∷ 480 ∷ 2 ∷ 480 ∷ 544 ∷ 64 ∷ 1195647779 ∷ 3 ∷ 0 ∷ 6 ∷ 4
    ∷ 0 ∷ 0 ∷ 0 ∷ 1 ∷ 64 ∷ 0 ∷ []

tree : to_tree_exit (lent 7 98 34 0 0 978) recording
    ≡ record {
      answer = ok (counts 7 7 17 0 978);
      visited = visited;
      blocks = marked_blocks;
      links = links;
      gaps = gaps;
      scratch = replicate 0 0;
      out =
          ascii "##ID @ 0x0000000000 [Identification: version='5', program='" ++ (239 ∷ 191 ∷ 189 ∷ 239 ∷ 191 ∷ 189 ∷ []) ++ ascii " ab "
          ++ replicate 1 0 ++ ascii "']\n" ++ ascii "5    @ 0x0000000008 [Unknown block (not walked further)]\n"
          ++ ascii "##HD @ 0x0000000040 [Header Block (abs_time=12330501163126890850 ns, tz=32767 min)]\n"
          ++ ascii "`-- (first_dg_addr) ##DG @ 0x00000001e0 [Data Group #0 (record_id_len=1)]\n"
          ++ ascii "    |-- (first_cg_addr) ##CG @ 0x00000000d1 [Channel Group #0 (cycles=7, record=4294967296B = 0B data + 4294967295B inval + 1B record_id)]\n"
          ++ ascii "    |   |-- (acq_name_addr) ##MD @ 0x00000000a8 [Metadata (XML, 31 chars): " ++ (239 ∷ 191 ∷ 189 ∷ []) ++ replicate 1 0
          ++ (239 ∷ 191 ∷ 189 ∷ 239 ∷ 191 ∷ 189 ∷ []) ++ ascii "bb"
          ++ (239 ∷ 191 ∷ 189 ∷ 239 ∷ 191 ∷ 189 ∷ 239 ∷ 191 ∷ 189 ∷ 239 ∷ 191 ∷ 189 ∷ []) ++ ascii "b" ++ (239 ∷ 191 ∷ 189 ∷ 239 ∷ 191 ∷ 189 ∷ [])
          ++ ascii "]\n"
          ++ ascii "    |   |-- (first_sample_reduction_addr) ##HD @ 0x0000000040 [Header Block (abs_time=12330501163126890850 ns, tz=32767 min)] (already listed)\n"
          ++ ascii "    |   `-- (comment_addr) ##MD @ 0x00000000a8 [Metadata (XML, 31 chars): " ++ (239 ∷ 191 ∷ 189 ∷ []) ++ replicate 1 0
          ++ (239 ∷ 191 ∷ 189 ∷ 239 ∷ 191 ∷ 189 ∷ []) ++ ascii "bb"
          ++ (239 ∷ 191 ∷ 189 ∷ 239 ∷ 191 ∷ 189 ∷ 239 ∷ 191 ∷ 189 ∷ 239 ∷ 191 ∷ 189 ∷ []) ++ ascii "b" ++ (239 ∷ 191 ∷ 189 ∷ 239 ∷ 191 ∷ 189 ∷ [])
          ++ ascii "] (already listed)\n" ++ ascii "    |-- (data_block_addr) ##DT @ 0x0000000168 [Data block (100 payload bytes)]\n"
          ++ ascii "    `-- (comment_addr) 5    @ 0x0000000008 [Unknown block (not walked further)] (already listed)\n";
    }
unfolding computed recording visited links gaps marked_blocks
tree = refl
