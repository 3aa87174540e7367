-- The laws of trimming white space, one part at a time.
use Rattle.std.proofs.Common.{◌≡◌, refl, sym, ap, ◌∙◌, Bool, true, false, List, [], ◌∷◌, ◌++◌, ℕ}
use Rattle.utf8.specs.Utf8.{Chunk, chunks, bytes_all}
use Rattle.std.proofs.Common.{take, map}
use Rattle.std.proofs.lemmas.List.{append-nil, map-append}
use Rattle.utf8.specs.White.{white_chunk, trim_start, keep, drop_end, trim_end}
use Rattle.utf8.specs.Parts.{held}
use Rattle.utf8.specs.declared.Chunk as code
use Rattle.utf8.proofs.Ends.{drop_end_pass, drop_end_fail, drop_end_none}
use Rattle.utf8.proofs.Decoding.{Passed, size, front}

-- ---- off the start: those that are left are ys

module _ {all ys : List Chunk} (p : trim_start ys ≡ all) where
  pub start_white : {x : Chunk} {zs : List Chunk} → ys ≡ x ∷ zs → true ≡ white_chunk x → trim_start zs ≡ all
  unfolding trim_start
  start_white e w = rw (e, ← w) at p

  pub start_other : {x : Chunk} {zs : List Chunk} → ys ≡ x ∷ zs → false ≡ white_chunk x → ys ≡ all
  unfolding trim_start
  start_other e w = e ∙ (rw (e, ← w) at p)

  pub start_none : ys ≡ [] → ys ≡ all
  unfolding trim_start
  start_none e = e ∙ (rw e at p)

-- ---- off the end: those so far are l

pub end_none : size (trim_end []) ≡ 0
unfolding trim_end bytes_all
end_none = ap size (drop_end_none white_chunk)

module _ (l : List code.Chunk) (x : code.Chunk) where
  pub end_white : true ≡ white_chunk (held x) → trim_end (map held (l ++ x ∷ [])) ≡ trim_end (map held l)
  unfolding trim_end
  end_white w = rw map-append (drop_end_pass white_chunk (map held l) (held x) (sym w))

  pub end_other : false ≡ white_chunk (held x) → trim_end (map held (l ++ x ∷ [])) ≡ map held (l ++ x ∷ [])
  unfolding trim_end
  end_other w = rw map-append (drop_end_fail white_chunk (map held l) (held x) (sym w))

-- what is trimmed is the front of the parts
front_kept : (xs : List Chunk) → (ys : List Chunk) × (xs ≡ trim_end xs ++ ys)
unfolding trim_end drop_end keep
front_kept [] = ([], refl)
front_kept (x ∷ xs) = let k = front_kept xs in go (drop_end white_chunk xs) (white_chunk x) refl k.0 k.1
  where
    go : (d : List Chunk) (t : Bool) → white_chunk x ≡ t → (ys : List Chunk) → xs ≡ d ++ ys → (zs : List Chunk) × (x ∷ xs ≡ keep white_chunk x d ++ zs)
    go [] true e ys q = (x ∷ xs, rw e)
    go [] false e ys q = (ys, rw (e, q))
    go (y ∷ d) t e ys q = (ys, rw q)

pub ended : {t : List ℕ} {l : List code.Chunk} {ys : List Chunk} {at end : ℕ} → Passed t l ys at → ys ≡ [] → end ≡ size (trim_end (map held l))
    → chunks (take end t) ≡ trim_end (chunks t)
ended {t} {l} p e q =
    let w : chunks t ≡ map held l = p.whole ∙ rw (e, append-nil) in
    let k = front_kept (map held l) in
    rw (q, front (trim_end (map held l)) k.0 t (w ∙ k.1), w)
