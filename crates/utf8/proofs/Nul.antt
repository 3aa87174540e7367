-- NULs come off before or after decoding, with one result: a NUL byte is always a character by itself (`nuls_first`).
use mathlib.Core.Path.{◌≡◌, refl, sym, ap, subst, ◌∙◌}
use mathlib.Core.Bool.{Bool, true, false, cond}
use mathlib.Core.List.{List, [], ◌∷◌, ◌++◌, append-nil}
use Prim.Native.Nat.{ℕ, zero, suc, pred, ◌≤◌, ◌<◌}
use native.Mathlib.Omega.{arith}
use lib.Dec.{ltb, leb}
use lib.ListN.{length, take}
use native.Mathlib.Decide.{dec_lt}
use lib.Seq.{take-append-le, take_all}
use borrow.Author.Tests.{eqb-true}
use Rattle.utf8.specs.declared.Lead.{Lead}
use Rattle.utf8.specs.declared.Lead.TheVariants.{Ascii, Never, Second}
use Rattle.utf8.specs.declared.Step.{Step}
use Rattle.utf8.specs.declared.Step.TheVariants.{Char, Junk}
use Rattle.utf8.specs.Utf8.{lead_of, trailing, after_lead, step_of, width_of, Chunk, char, chunk_of, chunks_after, chunks, shown, shown_all, lossy}
use Rattle.utf8.specs.White.{keep, drop_end}
use Rattle.utf8.specs.Nul.{is_nul, trim_end_nuls, trim_start_nuls, trim_nuls}
use Rattle.utf8.proofs.Steps.{after_width}
use Rattle.utf8.proofs.Decoding.{shown_append}
use Rattle.utf8.proofs.Ends.{drop_end_pass}

-- a second byte is never 0
abbrev Above0 : Lead → Type 0
Above0 Ascii = Unit {0}
Above0 Never = Unit {0}
Above0 (Second lo hi more) = leb lo 0 ≡ false

ladder : (t0 t1 t2 t3 t4 t5 t6 t7 t8 t9 : Bool) → Above0 (cond t0 Ascii (cond t1 Never (cond t2 (Second 0x80 0xbf 0) (cond t3 (Second 0xa0 0xbf 1) (cond t4 (Second 0x80 0xbf 1) (cond t5 (Second 0x80 0x9f 1) (cond t6 (Second 0x80 0xbf 1) (cond t7 (Second 0x90 0xbf 2) (cond t8 (Second 0x80 0xbf 2) (cond t9 (Second 0x80 0x8f 2) Never))))))))))
ladder true t1 t2 t3 t4 t5 t6 t7 t8 t9 = tt
ladder false true t2 t3 t4 t5 t6 t7 t8 t9 = tt
ladder false false true t3 t4 t5 t6 t7 t8 t9 = refl
ladder false false false true t4 t5 t6 t7 t8 t9 = refl
ladder false false false false true t5 t6 t7 t8 t9 = refl
ladder false false false false false true t6 t7 t8 t9 = refl
ladder false false false false false false true t7 t8 t9 = refl
ladder false false false false false false false true t8 t9 = refl
ladder false false false false false false false false true t9 = refl
ladder false false false false false false false false false true = refl
ladder false false false false false false false false false false = tt

lead_above : (b : ℕ) → Above0 (lead_of b)
unfolding lead_of
lead_above b = ladder (ltb b 0x80) (ltb b 0xc2) (ltb b 0xe0) (ltb b 0xe1) (ltb b 0xed) (ltb b 0xee) (ltb b 0xf0) (ltb b 0xf1) (ltb b 0xf4) (ltb b 0xf5)

trailing_snoc : (more : ℕ) (s : List ℕ) → trailing more (s ++ 0 ∷ []) ≡ trailing more s
unfolding trailing
trailing_snoc zero s = refl
trailing_snoc (suc more) [] = refl
trailing_snoc (suc more) (b ∷ s) = rw (trailing_snoc more s)

after_snoc : (l : Lead) → Above0 l → (s : List ℕ) → after_lead l (s ++ 0 ∷ []) ≡ after_lead l s
unfolding after_lead
after_snoc Ascii a s = refl
after_snoc Never a s = refl
after_snoc (Second lo hi more) a [] = rw a
after_snoc (Second lo hi more) a (b ∷ s) = rw (trailing_snoc more s)

step_snoc : (b : ℕ) (s : List ℕ) → step_of (b ∷ (s ++ 0 ∷ [])) ≡ step_of (b ∷ s)
unfolding step_of
step_snoc b s = after_snoc (lead_of b) (lead_above b) s

chunk_snoc : (x : Step) (s : List ℕ) → width_of x ≤ length s → chunk_of x (s ++ 0 ∷ []) ≡ chunk_of x s
unfolding chunk_of
chunk_snoc (Char n) s h = rw (take-append-le n s (0 ∷ []) h)
chunk_snoc (Junk n) s h = rw (take-append-le n s (0 ∷ []) h)

-- the parts of a text with a NUL behind it
-- (by the step at the front)
front_snoc : (b : ℕ) (s : List ℕ) → chunks_after 0 (b ∷ (s ++ 0 ∷ [])) ≡ chunk_of (step_of (b ∷ s)) (b ∷ s) ∷ chunks_after (pred (width_of (step_of (b ∷ s)))) (s ++ 0 ∷ [])
unfolding chunks_after
front_snoc b s = rw (step_snoc b s, chunk_snoc (step_of (b ∷ s)) (b ∷ s) (unfold step_of in (omega (arith, (after_width (lead_of b) s).1))))

chunks_snoc : (skip : ℕ) (s : List ℕ) → skip ≤ length s → chunks_after skip (s ++ 0 ∷ []) ≡ chunks_after skip s ++ char (0 ∷ []) ∷ []
unfolding chunks_after step_of chunk_of lead_of after_lead
chunks_snoc zero [] h = refl
chunks_snoc (suc skip) [] h = absurd (omega arith)
chunks_snoc (suc skip) (b ∷ s) h = chunks_snoc skip s (omega arith)
chunks_snoc zero (b ∷ s) h =
    front_snoc b s ∙ ap (λ (l : List Chunk). chunk_of (step_of (b ∷ s)) (b ∷ s) ∷ l) (chunks_snoc (pred (width_of (step_of (b ∷ s)))) s (omega (arith, (after_width (lead_of b) s).0, (after_width (lead_of b) s).1)))

pub lossy_snoc : (s : List ℕ) → lossy (s ++ 0 ∷ []) ≡ lossy s ++ 0 ∷ []
unfolding lossy chunks shown shown_all
lossy_snoc s = rw (chunks_snoc 0 s (omega arith), shown_append)

-- NULs behind a text
abbrev pad : List ℕ → ℕ → List ℕ
pad xs zero = xs
pad xs (suc k) = pad xs k ++ 0 ∷ []

lossy_pad : (s : List ℕ) (k : ℕ) → lossy (pad s k) ≡ pad (lossy s) k
lossy_pad s zero = refl
lossy_pad s (suc k) = rw (lossy_snoc, lossy_pad s k)

pad_cons : (x : ℕ) (xs : List ℕ) (k : ℕ) → x ∷ pad xs k ≡ pad (x ∷ xs) k
pad_cons x xs zero = refl
pad_cons x xs (suc k) = ap (λ (l : List ℕ). l ++ 0 ∷ []) (pad_cons x xs k)

pad_nul : (k : ℕ) → 0 ∷ pad [] k ≡ pad [] (suc k)
pad_nul zero = refl
pad_nul (suc k) = ap (λ (l : List ℕ). l ++ 0 ∷ []) (pad_nul k)

trim_pad : (s : List ℕ) (k : ℕ) → trim_end_nuls (pad s k) ≡ trim_end_nuls s
unfolding trim_end_nuls is_nul
trim_pad s zero = refl
trim_pad s (suc k) = drop_end_pass is_nul (pad s k) 0 refl ∙ trim_pad s k

nul_is : (x : ℕ) → is_nul x ≡ true → x ≡ 0
unfolding is_nul
nul_is x n = eqb-true x 0 n

keep_none : (x : ℕ) → is_nul x ≡ true → keep is_nul x [] ≡ []
unfolding keep
keep_none x n = rw n refl

keep_last : (x : ℕ) → is_nul x ≡ false → keep is_nul x [] ≡ x ∷ []
unfolding keep
keep_last x n = rw n refl

keep_before : (x y : ℕ) (ys : List ℕ) → keep is_nul x (y ∷ ys) ≡ x ∷ y ∷ ys
unfolding keep
keep_before x y ys = refl

-- one byte more in front of `d` and NULs
kept_more : (x : ℕ) (d : List ℕ) (k : ℕ) (b : Bool) → is_nul x ≡ b → (j : ℕ) × (x ∷ pad d k ≡ pad (keep is_nul x d) j)
kept_more x [] k true n =
    (suc k, subst (λ (l : List ℕ). x ∷ pad [] k ≡ pad l (suc k)) (sym (keep_none x n)) (subst (λ (y : ℕ). y ∷ pad [] k ≡ pad [] (suc k)) (sym (nul_is x n)) (pad_nul k)))
kept_more x [] k false n = (k, subst (λ (l : List ℕ). x ∷ pad [] k ≡ pad l k) (sym (keep_last x n)) (pad_cons x [] k))
kept_more x (y ∷ ys) k b n = (k, subst (λ (l : List ℕ). x ∷ pad (y ∷ ys) k ≡ pad l k) (sym (keep_before x y ys)) (pad_cons x (y ∷ ys) k))

pub split : (s : List ℕ) → (k : ℕ) × (s ≡ pad (trim_end_nuls s) k)
unfolding trim_end_nuls drop_end
split [] = (0, refl)
split (x ∷ s) =
    let h : (k : ℕ) × (s ≡ pad (drop_end is_nul s) k) = split s in
    let m = kept_more x (drop_end is_nul s) h.0 (is_nul x) refl in
    (m.0, ap (λ (l : List ℕ). x ∷ l) h.1 ∙ m.1)

-- whether a text ends in a NUL
abbrev ends_in_nul : List ℕ → Bool
ends_in_nul [] = false
ends_in_nul (x ∷ []) = is_nul x
ends_in_nul (x ∷ y ∷ ys) = ends_in_nul (y ∷ ys)

kept : (s : List ℕ) → ends_in_nul s ≡ false → trim_end_nuls s ≡ s
unfolding trim_end_nuls drop_end keep
kept [] h = refl
kept (x ∷ []) h = rw h
kept (x ∷ y ∷ ys) h = let e : drop_end is_nul (y ∷ ys) ≡ y ∷ ys = kept (y ∷ ys) h in rw e

trimmed : (s : List ℕ) → ends_in_nul (trim_end_nuls s) ≡ false
unfolding trim_end_nuls drop_end keep
trimmed [] = refl
trimmed (x ∷ s) = let h : ends_in_nul (drop_end is_nul s) ≡ false = trimmed s in go (drop_end is_nul s) h (is_nul x) refl
  where
    go : (d : List ℕ) → ends_in_nul d ≡ false → (b : Bool) → is_nul x ≡ b → ends_in_nul (keep is_nul x d) ≡ false
    go [] h true n = rw n
    go [] h false n = rw (n, n)
    go (y ∷ ys) h b n = h

end_append : (xs : List ℕ) (y : ℕ) (ys : List ℕ) → ends_in_nul (xs ++ y ∷ ys) ≡ ends_in_nul (y ∷ ys)
end_append [] y ys = refl
end_append (x ∷ []) y ys = refl
end_append (x ∷ z ∷ xs) y ys = end_append (z ∷ xs) y ys

end_tail : (x : ℕ) (s : List ℕ) → ends_in_nul (x ∷ s) ≡ false → ends_in_nul s ≡ false
end_tail x [] h = refl
end_tail x (y ∷ ys) h = h

-- what a step at the front is shown as: it begins with that byte, or with EF hex
front : (x : Step) (b : ℕ) (s : List ℕ) → 1 ≤ width_of x → (c : ℕ) × (cs : List ℕ) × (shown (chunk_of x (b ∷ s)) ≡ c ∷ cs) × (is_nul b ≡ false → is_nul c ≡ false)
unfolding chunk_of shown is_nul
front (Char zero) b s h = absurd (omega arith)
front (Char (suc n)) b s h = (b, take n s, refl, λ e. e)
front (Junk n) b s h = (0xef, 0xbf ∷ 0xbd ∷ [], refl, λ e. refl)

none_behind : (skip : ℕ) (s : List ℕ) → length s ≤ skip → chunks_after skip s ≡ []
unfolding chunks_after
none_behind skip [] h = refl
none_behind zero (b ∷ s) h = absurd (omega arith)
none_behind (suc skip) (b ∷ s) h = none_behind skip s (omega arith)

some_behind : (skip : ℕ) (s : List ℕ) → skip < length s → (c : ℕ) × (cs : List ℕ) × (shown_all (chunks_after skip s) ≡ c ∷ cs)
unfolding chunks_after shown_all step_of
some_behind skip [] h = absurd (omega arith)
some_behind zero (b ∷ s) h =
    let f = front (after_lead (lead_of b) s) b s (after_width (lead_of b) s).0 in
    (f.0, f.1 ++ shown_all (chunks_after (pred (width_of (after_lead (lead_of b) s))) s), rw f.2)
some_behind (suc skip) (b ∷ s) h = some_behind skip s (omega arith)

whole_end : (x : Step) (s : List ℕ) → length s ≤ width_of x → ends_in_nul s ≡ false → ends_in_nul (shown (chunk_of x s)) ≡ false
unfolding chunk_of shown is_nul
whole_end (Char n) s h e = rw (take_all n s h) e
whole_end (Junk n) s h e = refl

end_lossy : (skip : ℕ) (s : List ℕ) → ends_in_nul s ≡ false → ends_in_nul (shown_all (chunks_after skip s)) ≡ false
unfolding chunks_after shown_all step_of
end_lossy skip [] h = refl
end_lossy (suc skip) (b ∷ s) h = end_lossy skip s (end_tail b s h)
end_lossy zero (b ∷ s) h =
    let f = after_width (lead_of b) s in
    let ih = end_lossy (pred (width_of (after_lead (lead_of b) s))) s (end_tail b s h) in
    elim (dec_lt (pred (width_of (after_lead (lead_of b) s))) (length s)) [
      | yes l ↦
          let q = some_behind (pred (width_of (after_lead (lead_of b) s))) s l in
          rw q.2 (end_append (shown (chunk_of (after_lead (lead_of b) s) (b ∷ s))) q.0 q.1 ∙ (rw q.2 at ih))
      | no l ↦
          rw (none_behind (pred (width_of (after_lead (lead_of b) s))) s (omega arith), append-nil)
          (whole_end (after_lead (lead_of b) s) (b ∷ s) (omega (arith, f.0, f.1)) h)
    ]

pub trim_lossy : (s : List ℕ) → trim_end_nuls (lossy s) ≡ lossy (trim_end_nuls s)
unfolding lossy chunks
trim_lossy s =
    let p = split s in
    let a : lossy s ≡ pad (lossy (trim_end_nuls s)) p.0 = ap lossy p.1 ∙ lossy_pad (trim_end_nuls s) p.0 in
    ap trim_end_nuls a ∙ trim_pad (lossy (trim_end_nuls s)) p.0 ∙ kept (lossy (trim_end_nuls s)) (end_lossy 0 (trim_end_nuls s) (trimmed s))

nul_front : (s : List ℕ) → lossy (0 ∷ s) ≡ 0 ∷ lossy s
unfolding lossy chunks chunks_after step_of lead_of after_lead chunk_of shown shown_all
nul_front s = refl

other_front : (b : ℕ) (s : List ℕ) → is_nul b ≡ false → trim_start_nuls (lossy (b ∷ s)) ≡ lossy (b ∷ s)
unfolding lossy chunks chunks_after step_of shown_all trim_start_nuls
other_front b s e =
    let f = front (after_lead (lead_of b) s) b s (after_width (lead_of b) s).0 in
    rw (f.2, f.3 e)

pub drop_lossy : (s : List ℕ) → trim_start_nuls (lossy s) ≡ lossy (trim_start_nuls s)
unfolding trim_start_nuls lossy chunks chunks_after shown_all is_nul
drop_lossy [] = refl
drop_lossy (b ∷ s) = go (is_nul b) refl (drop_lossy s)
  where
    go : (t : Bool) → is_nul b ≡ t → trim_start_nuls (lossy s) ≡ lossy (trim_start_nuls s) → trim_start_nuls (lossy (b ∷ s)) ≡ lossy (cond (is_nul b) (trim_start_nuls s) (b ∷ s))
    go true e ih = let z : b ≡ 0 = eqb-true b 0 (unfold is_nul in e) in rw z (ap trim_start_nuls (nul_front s) ∙ ih)
    go false e ih = rw e (other_front b s e)

-- `trim_matches` of the decoded text is the decoding of the bytes between the NULs
pub nuls_first : (s : List ℕ) → trim_end_nuls (trim_start_nuls (lossy s)) ≡ lossy (trim_nuls s)
unfolding trim_nuls
nuls_first s = ap trim_end_nuls (drop_lossy s) ∙ trim_lossy (trim_start_nuls s)
