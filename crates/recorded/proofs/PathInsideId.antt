-- path_inside_id.mf4, as the Rust answers it; links behind rows, path and clear list as the scripts draw them.
use mathlib.Core.Path.{◌≡◌, refl}
use mathlib.Core.List.{List, [], ◌∷◌, ◌++◌}
use Prim.Native.Nat.{ℕ}
use lib.ListN.{replicate}
use Rattle.fmt.specs.Text.{ascii}
use Rattle.mdf4.specs.Act.{ok, err, refusal}
use Rattle.mdf4.specs.Answers.{layout_exit, to_text_exit, to_tree_exit, path_exit, clear_list_exit}
use Rattle.mdf4.proofs.Computed.{computed}
use Rattle.mdf4.proofs.Recordings.{lent, counts}

recording : List ℕ
recording =
    ascii "MDF     4.10    console1" ++ replicate 4 0 ++ (154 ∷ 1 ∷ []) ++ replicate 34 0 ++ ascii "##HD" ++ replicate 4 0 ++ (104 ∷ [])
    ++ replicate 7 0 ++ (6 ∷ []) ++ replicate 7 0 ++ (168 ∷ []) ++ replicate 39 0 ++ (40 ∷ []) ++ replicate 39 0 ++ ascii "##DG"
    ++ replicate 4 0 ++ (64 ∷ []) ++ replicate 7 0 ++ (4 ∷ []) ++ replicate 31 0 ++ (8 ∷ []) ++ replicate 15 0

visited : List ℕ
visited =
    0 ∷ 64 ∷ 40 ∷ 168 ∷ 8 ∷ []

links : List ℕ
links =
    168 ∷ 1195647780 ∷ 0 ∷ 0 ∷ 0 ∷ 0 ∷ 0 ∷ 0 ∷ 0 ∷ 0 ∷ 40 ∷ 1 ∷ 0 ∷ 0 ∷ 0 ∷ 0 ∷ 0 ∷ 0 ∷ 8 ∷ 808529461 ∷ []

gaps : List ℕ
gaps =
    []

blocks : List ℕ
blocks =
    0 ∷ 64 ∷ 64 ∷ 1145643811 ∷ 1 ∷ 0 ∷ 0 ∷ 0 ∷ 0 ∷ 0 ∷ 0 ∷ 0 ∷ 0 ∷ 0 ∷ 8 ∷ 3559370306440032107 ∷ 3559370306440032099 ∷ 808529460 ∷ 12 ∷ 0
    ∷ 0 ∷ 0 ∷ 0 ∷ 0 ∷ 0 ∷ 0 ∷ 168 ∷ 3 ∷ 40 ∷ 40 ∷ 0 ∷ 0 ∷ 12 ∷ 0 ∷ 0 ∷ 0 ∷ 0 ∷ 0 ∷ 0 ∷ 0 ∷ 64 ∷ 5 ∷ 64 ∷ 168 ∷ 104 ∷ 1145578275 ∷ 2 ∷ 0 ∷ 0
    ∷ 6 ∷ 0 ∷ 0 ∷ 0 ∷ 0 ∷ 0 ∷ 0 ∷ 168 ∷ 232 ∷ 64 ∷ 1195647779 ∷ 3 ∷ 0 ∷ 6 ∷ 4 ∷ 0 ∷ 0 ∷ 0 ∷ 0 ∷ 64 ∷ 0 ∷ []

layout : layout_exit (lent 5 70 20 0 0 0) recording
    ≡ record {
      answer = ok (counts 5 5 10 0 0);
      visited = visited;
      blocks = blocks;
      links = links;
      gaps = gaps;
      scratch = replicate 0 0;
      out =
          [];
    }
unfolding computed recording visited links gaps blocks
layout = refl

text : to_text_exit (lent 5 70 20 0 0 1524) recording
    ≡ record {
      answer = ok (counts 5 5 10 0 1524);
      visited = visited;
      blocks = blocks;
      links = links;
      gaps = gaps;
      scratch = replicate 0 0;
      out =
          ascii "MDF block layout (file size: 232 bytes / 0xe8)\n" ++ (10 ∷ []) ++ ascii "Blocks (5 total), sorted by offset:\n"
          ++ ascii "offset        end                 size  type    description\n"
          ++ ascii "------------  ------------  ----------  ------  ------------------------------------------------------------\n"
          ++ ascii "0x0000000000  0x0000000040          64  ##ID    Identification: version='4.10', program='console1'\n"
          ++ ascii "                                            version_number=410, standard_unfinalized_flags=0x0000, custom_unfinalized_flags=0x0000\n"
          ++ ascii "0x0000000008  0x31656c6f736e6f6b  3559370306440032099  4.10    Unknown block (not walked further)\n"
          ++ ascii "0x0000000028  0x0000000028           0  " ++ replicate 4 0 ++ ascii "    Unknown block (not walked further)\n"
          ++ ascii "0x0000000040  0x00000000a8         104  ##HD    Header Block (abs_time=0 ns, tz=0 min)\n"
          ++ ascii "                                            flags=0x00, time_flags=0x00, time_quality=0x00\n"
          ++ ascii "0x00000000a8  0x00000000e8          64  ##DG    Data Group #0 (record_id_len=0)\n" ++ (10 ∷ []) ++ ascii "Block links:\n"
          ++ ascii "  ##HD @ 0x0000000040 (Header Block (abs_time=0 ns, tz=0 min))\n"
          ++ ascii "    first_dg_addr                -> 0x00000000a8 (##DG)\n" ++ ascii "    file_history_addr            -> (null)\n"
          ++ ascii "    channel_tree_addr            -> (null)\n" ++ ascii "    first_attachment_addr        -> (null)\n"
          ++ ascii "    first_event_addr             -> (null)\n" ++ ascii "    comment_addr                 -> 0x0000000028 (" ++ replicate 4 0
          ++ ascii ")\n" ++ ascii "  ##DG @ 0x00000000a8 (Data Group #0 (record_id_len=0))\n"
          ++ ascii "    next_dg_addr                 -> (null)\n" ++ ascii "    first_cg_addr                -> (null)\n"
          ++ ascii "    data_block_addr              -> (null)\n" ++ ascii "    comment_addr                 -> 0x0000000008 (4.10)\n";
    }
unfolding computed recording visited links gaps blocks
text = refl

clear : clear_list_exit (lent 5 70 20 0 18 24) recording
    ≡ record {
      answer = ok (counts 5 5 10 0 24);
      visited = visited;
      blocks = blocks;
      links = links;
      gaps = gaps;
      scratch = replicate 18 0;
      out =
          67 ∷ 76 ∷ 82 ∷ 1 ∷ 0 ∷ 0 ∷ 0 ∷ 0 ∷ 232 ∷ 0 ∷ 0 ∷ 0 ∷ 0 ∷ 0 ∷ 0 ∷ 0 ∷ 0 ∷ 0 ∷ 0 ∷ 0 ∷ 0 ∷ 0 ∷ 0 ∷ 0 ∷ [];
    }
unfolding computed recording visited links gaps blocks
clear = refl

path : path_exit 8 (lent 5 70 20 0 0 3) recording
    ≡ record {
      answer = ok (counts 5 5 10 0 3);
      visited = visited;
      blocks = blocks;
      links = links;
      gaps = gaps;
      scratch = replicate 0 0;
      out =
          64 ∷ 168 ∷ 8 ∷ [];
    }
unfolding computed recording visited links gaps blocks
path = refl

path_short : path_exit 8 (lent 5 70 20 0 0 2) recording
    ≡ record { answer = err (refusal 13 0 2 3); visited = replicate 5 0; blocks = replicate 70 0; links = replicate 20 0; gaps = replicate 0 0; scratch = replicate 0 0; out = replicate 2 0 }
unfolding computed recording
path_short = refl

marked_blocks : List ℕ
marked_blocks =
    0 ∷ 64 ∷ 64 ∷ 1145643811 ∷ 1 ∷ 0 ∷ 0 ∷ 0 ∷ 0 ∷ 0 ∷ 0 ∷ 1 ∷ 0 ∷ 0 ∷ 8 ∷ 3559370306440032107 ∷ 3559370306440032099 ∷ 808529460 ∷ 12 ∷ 0
    ∷ 0 ∷ 0 ∷ 0 ∷ 0 ∷ 0 ∷ 1 ∷ 168 ∷ 3 ∷ 40 ∷ 40 ∷ 0 ∷ 0 ∷ 12 ∷ 0 ∷ 0 ∷ 0 ∷ 0 ∷ 0 ∷ 0 ∷ 1 ∷ 64 ∷ 5 ∷ 64 ∷ 168 ∷ 104 ∷ 1145578275 ∷ 2 ∷ 0 ∷ 0
    ∷ 6 ∷ 0 ∷ 0 ∷ 0 ∷ 1 ∷ 0 ∷ 0 ∷ 168 ∷ 232 ∷ 64 ∷ 1195647779 ∷ 3 ∷ 0 ∷ 6 ∷ 4 ∷ 0 ∷ 0 ∷ 0 ∷ 1 ∷ 64 ∷ 0 ∷ []

tree : to_tree_exit (lent 5 70 20 0 0 512) recording
    ≡ record {
      answer = ok (counts 5 5 10 0 512);
      visited = visited;
      blocks = marked_blocks;
      links = links;
      gaps = gaps;
      scratch = replicate 0 0;
      out =
          ascii "##ID @ 0x0000000000 [Identification: version='4.10', program='console1']\n"
          ++ ascii "4.10 @ 0x0000000008 [Unknown block (not walked further)]\n" ++ replicate 4 0
          ++ ascii " @ 0x0000000028 [Unknown block (not walked further)]\n"
          ++ ascii "##HD @ 0x0000000040 [Header Block (abs_time=0 ns, tz=0 min)]\n"
          ++ ascii "|-- (first_dg_addr) ##DG @ 0x00000000a8 [Data Group #0 (record_id_len=0)]\n"
          ++ ascii "|   `-- (comment_addr) 4.10 @ 0x0000000008 [Unknown block (not walked further)] (already listed)\n"
          ++ ascii "`-- (comment_addr) " ++ replicate 4 0 ++ ascii " @ 0x0000000028 [Unknown block (not walked further)] (already listed)\n";
    }
unfolding computed recording visited links gaps marked_blocks
tree = refl
