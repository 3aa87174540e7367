-- A path counted link by link, and stored word by word from the last on. Assumes nothing.
use Rattle.std.proofs.Common.{◌≡◌, refl, sym, ap, ◌∙◌, Bool, true, false, cond, ℕ, zero, suc, ◌+◌, ◌-◌, ◌≤◌, ◌<◌, List, [], ◌∷◌, ◌++◌, length, map, take, drop, set, eqb, arith}
use Rattle.std.proofs.Common.{add-one, append-nil, append_assoc, length-set}
use Rattle.std.proofs.lemmas.Bool.{eq-eqb, ne_eqb}
use Rattle.std.proofs.lemmas.List.{length-append, length-map, drop-set}
use Rattle.std.proofs.Math.ListN.{drop_of_length-le}
use lib.Seq.{length-take-le}
use Rattle.mdf4.specs.Act.{Row}
use Rattle.mdf4.specs.Layout.{Layout}
use Rattle.mdf4.specs.Walk.{header_at}
use Rattle.mdf4.specs.Paths.{from_block_at, path_up, is_listed, path}
use Rattle.tables.specs.Rows.{row_of_words}
use Rattle.to_path.specs.Words.{last_words, Written}

-- behind `links` links from t up it is at a
pub record Counting (n : ℕ) (ws : List Row) (t links a : ℕ) : Type 0 where
  pub few : links ≤ n
  pub left : length (path_up n ws t) ≡ links + length (path_up (n - links) ws a)

module _ {n : ℕ} {ws : List Row} {t : ℕ} where
  pub count_none : Counting n ws t 0 t
  count_none = let e : n - 0 ≡ n = omega arith in record { few = omega arith; left = rw e (omega arith) }

  module _ {links a : ℕ} (c : Counting n ws t links a) where
    pub count_header : a ≡ header_at → links + 1 ≡ length (path_up n ws t)
    unfolding path_up
    count_header e = sym (c.left ∙ ap (λ (k : ℕ). links + k) (one (n - links)))
      where
        one : (m : ℕ) → length (path_up m ws a) ≡ 1
        one zero = refl
        one (suc m) = rw (eq-eqb a header_at e)

    pub count_all : n ≤ links → n + 1 ≡ length (path_up n ws t)
    count_all h =
        let e : n - links ≡ 0 = omega arith in
        let q : links ≡ n = omega (arith, c.few) in
        sym (c.left ∙ rw (e, q) (unfold path_up in refl))

    pub count_more : {u : ℕ} → links < n → (a ≡ header_at → ⊥) → u ≡ from_block_at ws a → Counting n ws t (links + 1) u
    unfolding path_up
    count_more {u} h g e =
        let s : n - links ≡ suc (n - (links + 1)) = omega arith in
        let q : length (path_up (n - links) ws a) ≡ length (path_up (n - (links + 1)) ws u) + 1 = rw (s, e) (one (n - (links + 1))) in
        record { few = omega arith; left = c.left ∙ omega (arith, q) }
      where
        one : (m : ℕ) → length (path_up (suc m) ws a) ≡ length (path_up m ws (from_block_at ws a)) + 1
        one m = rw (ne_eqb a header_at g, length-append)

-- a path is its own last words
pub own_words : (n : ℕ) (ws : List Row) (a : ℕ) → last_words (length (path_up n ws a)) ws a ≡ path_up n ws a
unfolding path_up last_words
own_words zero ws a = refl
own_words (suc n) ws a = go (eqb a header_at) (own_words n ws (from_block_at ws a))
  where
    snoc : (xs : List ℕ) (x : ℕ) → length (xs ++ x ∷ []) ≡ suc (length xs)
    snoc xs x = rw length-append (omega arith)

    go : (h : Bool) → last_words (length (path_up n ws (from_block_at ws a))) ws (from_block_at ws a) ≡ path_up n ws (from_block_at ws a)
        → last_words (length (cond h (a ∷ []) (path_up n ws (from_block_at ws a) ++ a ∷ []))) ws a ≡ cond h (a ∷ []) (path_up n ws (from_block_at ws a) ++ a ∷ [])
    go true e = refl
    go false e = rw snoc (ap (λ (p : List ℕ). p ++ a ∷ []) e)

-- of n words all but the first i are stored in p, and it is at a
pub record Storing (ws : List Row) (t n : ℕ) (p : List ℕ) (i a : ℕ) : Type 0 where
  pub few : i ≤ n
  pub long : length p ≡ n
  pub is : last_words i ws a ++ drop i p ≡ last_words n ws t

module _ {ws : List Row} {t : ℕ} where
  pub store_none : {p : List ℕ} → Storing ws t (length p) p (length p) t
  store_none {p} =
      let e : drop (length p) p ≡ [] = drop_of_length-le p (omega arith) in
      record { few = omega arith; long = refl; is = rw e (append-nil (last_words (length p) ws t)) }

  pub store_more : {n : ℕ} {p : List ℕ} {i a u : ℕ} → Storing ws t n p (i + 1) a → u ≡ from_block_at ws a → Storing ws t n (set p i a) i u
  unfolding last_words
  store_more {n} {p} {i} {a} {u} s e =
      let l : i < length p = omega (arith, s.few, s.long) in
      let z : last_words (suc i) ws a ++ drop (suc i) p ≡ last_words n ws t = rw add-one at s.is in
      record {
        few = omega (arith, s.few);
        long = length-set p i a ∙ s.long;
        is = rw (e, drop-set p i a l, add-one) (sym (append_assoc (last_words i ws (from_block_at ws a)) (a ∷ []) (drop (suc i) p)) ∙ z);
      }

  pub store_all : {n : ℕ} {p : List ℕ} {i a : ℕ} → Storing ws t n p i a → i ≡ 0 → p ≡ last_words n ws t
  unfolding last_words
  store_all s e = rw e at s.is

-- the path of a layout whose blocks are the rows bs
no_words : {p q : List ℕ} → p ≡ [] → Written p q q 0
no_words e = rw e (record { words = refl; fits = λ h. refl; short = λ h. refl })

module _ (bs : List (List ℕ)) (t : ℕ) (p : List ℕ) (y : Layout) (e : y.blocks ≡ map row_of_words bs) where
  pub put_id : t ≡ 0 → Written (path y t) p p 0
  put_id z = no_words (unfold path in rw (eq-eqb t 0 z))

  pub put_unlisted : (t ≡ 0 → ⊥) → is_listed (map row_of_words bs) t ≡ false → Written (path y t) p p 0
  put_unlisted z h = no_words (unfold path in rw (ne_eqb t 0 z, e, h))

  module _ (z : t ≡ 0 → ⊥) (h : is_listed (map row_of_words bs) t ≡ true) {count : ℕ} (c : count ≡ length (path_up (length bs) (map row_of_words bs) t)) where
    path_is : path y t ≡ path_up (length bs) (map row_of_words bs) t
    unfolding path
    path_is = rw (ne_eqb t 0 z, e, h, length-map)

    -- stored in the first words of the table
    pub put_fitting : count ≤ length p → {q : List ℕ} → q ≡ last_words (length (take count p)) (map row_of_words bs) t
        → Written (path y t) p (q ++ drop count p) count
    put_fitting k {q} f =
        let l : length (take count p) ≡ count = length-take-le count p k in
        let u : q ≡ path_up (length bs) (map row_of_words bs) t = f ∙ rw (l, c) (own_words (length bs) (map row_of_words bs) t) in
        rw path_is (record { words = c; fits = λ h. ap (λ (x : List ℕ). x ++ drop count p) u; short = λ h. absurd (omega arith) })

    pub put_long : length p < count → Written (path y t) p p count
    put_long l = rw path_is (record { words = c; fits = λ k. absurd (omega arith); short = λ k. refl })
