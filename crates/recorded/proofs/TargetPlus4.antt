-- target_plus_4.mf4, as the Rust answers it; links behind rows, path and clear list as the scripts draw them.
use mathlib.Core.Path.{◌≡◌, refl}
use mathlib.Core.List.{List, [], ◌∷◌, ◌++◌}
use Prim.Native.Nat.{ℕ}
use lib.ListN.{replicate}
use Rattle.fmt.specs.Text.{ascii}
use Rattle.mdf4.specs.Act.{err, refusal}
use Rattle.mdf4.specs.Answers.{layout_exit, to_text_exit, to_tree_exit, path_exit, clear_list_exit}
use Rattle.mdf4.proofs.Computed.{computed}
use Rattle.mdf4.proofs.Recordings.{lent}

recording : List ℕ
recording =
    ascii "MDF     4.10    console1" ++ replicate 4 0 ++ (154 ∷ 1 ∷ []) ++ replicate 34 0 ++ ascii "##HD" ++ replicate 4 0 ++ (104 ∷ [])
    ++ replicate 7 0 ++ (6 ∷ []) ++ replicate 47 0 ++ (252 ∷ 255 ∷ 255 ∷ 255 ∷ 255 ∷ 255 ∷ 255 ∷ 255 ∷ []) ++ replicate 32 0

layout : layout_exit (lent 999 11665 999 999 999 9) recording
    ≡ record { answer = err (refusal 7 18446744073709551612 18446744073709551612 4); visited = replicate 999 0; blocks = replicate 11665 0; links = replicate 999 0; gaps = replicate 999 0; scratch = replicate 999 0; out = replicate 9 0 }
unfolding computed recording
layout = refl

text : to_text_exit (lent 999 11665 999 999 999 9) recording
    ≡ record { answer = err (refusal 7 18446744073709551612 18446744073709551612 4); visited = replicate 999 0; blocks = replicate 11665 0; links = replicate 999 0; gaps = replicate 999 0; scratch = replicate 999 0; out = replicate 9 0 }
unfolding computed recording
text = refl

tree : to_tree_exit (lent 999 11665 999 999 999 9) recording
    ≡ record { answer = err (refusal 7 18446744073709551612 18446744073709551612 4); visited = replicate 999 0; blocks = replicate 11665 0; links = replicate 999 0; gaps = replicate 999 0; scratch = replicate 999 0; out = replicate 9 0 }
unfolding computed recording
tree = refl

path : path_exit 64 (lent 999 11665 999 999 999 9) recording
    ≡ record { answer = err (refusal 7 18446744073709551612 18446744073709551612 4); visited = replicate 999 0; blocks = replicate 11665 0; links = replicate 999 0; gaps = replicate 999 0; scratch = replicate 999 0; out = replicate 9 0 }
unfolding computed recording
path = refl

clear : clear_list_exit (lent 999 11665 999 999 999 9) recording
    ≡ record { answer = err (refusal 7 18446744073709551612 18446744073709551612 4); visited = replicate 999 0; blocks = replicate 11665 0; links = replicate 999 0; gaps = replicate 999 0; scratch = replicate 999 0; out = replicate 9 0 }
unfolding computed recording
clear = refl
