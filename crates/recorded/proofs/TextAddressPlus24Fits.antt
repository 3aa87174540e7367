-- text_address_plus_24_fits.mf4, as the Rust answers it; links behind rows, path and clear list as the scripts draw them.
use mathlib.Core.Path.{◌≡◌, refl}
use mathlib.Core.List.{List, [], ◌∷◌, ◌++◌}
use Prim.Native.Nat.{ℕ}
use lib.ListN.{replicate}
use Rattle.fmt.specs.Text.{ascii}
use Rattle.mdf4.specs.Act.{ok, err, refusal}
use Rattle.mdf4.specs.Answers.{layout_exit, to_text_exit, to_tree_exit, path_exit, clear_list_exit}
use Rattle.mdf4.proofs.Computed.{computed}
use Rattle.mdf4.proofs.Recordings.{lent, counts}

recording : List ℕ
recording =
    ascii "MDF     4.10    console1" ++ replicate 4 0 ++ (154 ∷ 1 ∷ []) ++ replicate 34 0 ++ ascii "##HD" ++ replicate 4 0 ++ (104 ∷ [])
    ++ replicate 7 0 ++ (6 ∷ []) ++ replicate 47 0 ++ (231 ∷ 255 ∷ 255 ∷ 255 ∷ 255 ∷ 255 ∷ 255 ∷ 255 ∷ []) ++ replicate 32 0

visited : List ℕ
visited =
    0 ∷ 64 ∷ 18446744073709551591 ∷ []

links : List ℕ
links =
    0 ∷ 0 ∷ 0 ∷ 0 ∷ 0 ∷ 0 ∷ 0 ∷ 0 ∷ 0 ∷ 0 ∷ 18446744073709551591 ∷ 0 ∷ []

gaps : List ℕ
gaps =
    []

blocks : List ℕ
blocks =
    0 ∷ 64 ∷ 64 ∷ 1145643811 ∷ 1 ∷ 0 ∷ 0 ∷ 0 ∷ 0 ∷ 0 ∷ 0 ∷ 0 ∷ 0 ∷ 0 ∷ 64 ∷ 168 ∷ 104 ∷ 1145578275 ∷ 2 ∷ 0 ∷ 0 ∷ 6 ∷ 0 ∷ 0 ∷ 0 ∷ 0 ∷ 0 ∷ 0
    ∷ []

layout : layout_exit (lent 3 28 12 0 0 0) recording
    ≡ record {
      answer = ok (counts 3 2 6 0 0);
      visited = visited;
      blocks = blocks;
      links = links;
      gaps = gaps;
      scratch = replicate 0 0;
      out =
          [];
    }
unfolding computed recording visited links gaps blocks
layout = refl

text : to_text_exit (lent 3 28 12 0 0 1012) recording
    ≡ record {
      answer = ok (counts 3 2 6 0 1012);
      visited = visited;
      blocks = blocks;
      links = links;
      gaps = gaps;
      scratch = replicate 0 0;
      out =
          ascii "MDF block layout (file size: 168 bytes / 0xa8)\n" ++ (10 ∷ []) ++ ascii "Blocks (2 total), sorted by offset:\n"
          ++ ascii "offset        end                 size  type    description\n"
          ++ ascii "------------  ------------  ----------  ------  ------------------------------------------------------------\n"
          ++ ascii "0x0000000000  0x0000000040          64  ##ID    Identification: version='4.10', program='console1'\n"
          ++ ascii "                                            version_number=410, standard_unfinalized_flags=0x0000, custom_unfinalized_flags=0x0000\n"
          ++ ascii "0x0000000040  0x00000000a8         104  ##HD    Header Block (abs_time=0 ns, tz=0 min)\n"
          ++ ascii "                                            flags=0x00, time_flags=0x00, time_quality=0x00\n" ++ (10 ∷ [])
          ++ ascii "Block links:\n" ++ ascii "  ##HD @ 0x0000000040 (Header Block (abs_time=0 ns, tz=0 min))\n"
          ++ ascii "    first_dg_addr                -> (null)\n" ++ ascii "    file_history_addr            -> (null)\n"
          ++ ascii "    channel_tree_addr            -> (null)\n" ++ ascii "    first_attachment_addr        -> (null)\n"
          ++ ascii "    first_event_addr             -> (null)\n" ++ ascii "    comment_addr                 -> 0xffffffffffffffe7 (?)\n";
    }
unfolding computed recording visited links gaps blocks
text = refl

clear : clear_list_exit (lent 3 28 12 0 4 24) recording
    ≡ record {
      answer = ok (counts 3 2 6 0 24);
      visited = visited;
      blocks = blocks;
      links = links;
      gaps = gaps;
      scratch = replicate 4 0;
      out =
          67 ∷ 76 ∷ 82 ∷ 1 ∷ 0 ∷ 0 ∷ 0 ∷ 0 ∷ 168 ∷ 0 ∷ 0 ∷ 0 ∷ 0 ∷ 0 ∷ 0 ∷ 0 ∷ 0 ∷ 0 ∷ 0 ∷ 0 ∷ 0 ∷ 0 ∷ 0 ∷ 0 ∷ [];
    }
unfolding computed recording visited links gaps blocks
clear = refl

path : path_exit 64 (lent 3 28 12 0 0 1) recording
    ≡ record {
      answer = ok (counts 3 2 6 0 1);
      visited = visited;
      blocks = blocks;
      links = links;
      gaps = gaps;
      scratch = replicate 0 0;
      out =
          64 ∷ [];
    }
unfolding computed recording visited links gaps blocks
path = refl

path_short : path_exit 64 (lent 3 28 12 0 0 0) recording
    ≡ record { answer = err (refusal 13 0 0 1); visited = replicate 3 0; blocks = replicate 28 0; links = replicate 12 0; gaps = replicate 0 0; scratch = replicate 0 0; out = replicate 0 0 }
unfolding computed recording
path_short = refl

marked_blocks : List ℕ
marked_blocks =
    0 ∷ 64 ∷ 64 ∷ 1145643811 ∷ 1 ∷ 0 ∷ 0 ∷ 0 ∷ 0 ∷ 0 ∷ 0 ∷ 1 ∷ 0 ∷ 0 ∷ 64 ∷ 168 ∷ 104 ∷ 1145578275 ∷ 2 ∷ 0 ∷ 0 ∷ 6 ∷ 0 ∷ 0 ∷ 0 ∷ 1 ∷ 0 ∷ 0
    ∷ []

tree : to_tree_exit (lent 3 28 12 0 0 134) recording
    ≡ record {
      answer = ok (counts 3 2 6 0 134);
      visited = visited;
      blocks = marked_blocks;
      links = links;
      gaps = gaps;
      scratch = replicate 0 0;
      out =
          ascii "##ID @ 0x0000000000 [Identification: version='4.10', program='console1']\n"
          ++ ascii "##HD @ 0x0000000040 [Header Block (abs_time=0 ns, tz=0 min)]\n";
    }
unfolding computed recording visited links gaps marked_blocks
tree = refl
