-- Rows read off their words: where the words of a row stand, and rows that are read back as they were written. Assumes nothing.
use mathlib.Core.Path.{◌≡◌, refl, sym, ap, ap₂, ◌∙◌}
use mathlib.Core.List.{List, [], ◌∷◌, ◌++◌, append_assoc}
use Prim.Native.Nat.{ℕ, zero, suc, ◌+◌, ◌*◌, ◌<◌}
use native.Mathlib.Omega.{arith}
use native.Mathlib.Nat.{suc-mul}
use lib.ListN.{length, get_or, take, drop, get_or-append}
use lib.Seq.{get_or-take, get_or-drop, get_or-append_seam, take_at, drop_at, drop-drop}
use Rattle.mdf4.specs.Bytes.{concat_map}
use Rattle.mdf4.specs.Act.{Row, Link}
use Rattle.mdf4.specs.Answers.{row_words, link_words, block_row_words, pair_words}
use Rattle.blocks.specs.declared.kind.Kind as code
use Rattle.blocks.specs.Kind.{kind_named}
use Rattle.tables.specs.Rows.{kind_of, row_of_words, row_of, link_of_words, table, held_rows, held_links, row_at, link_at}
use Rattle.tables.proofs.Numbers.{kind_again}
use Rattle.tables.proofs.Tables.{table_length}
use Rattle.tables.proofs.Sorting.{Place, less, same, more, place}

-- the word j of row i
pub row_word : (k i j : ℕ) (t : List ℕ) → j < k → get_or (take k (drop (i * k) t)) j 0 ≡ get_or t (i * k + j) 0
row_word k i j t h = get_or-take k (drop (i * k) t) j 0 h ∙ get_or-drop (i * k) t j 0

-- the row that has the words w
pub row_read : (w : List ℕ) (k : code.Kind) {a e s m x f n z v d p q : ℕ}
    → a ≡ get_or w 0 0 → e ≡ get_or w 1 0 → s ≡ get_or w 2 0 → m ≡ get_or w 3 0 → kind_named k ≡ kind_of (get_or w 4 0) → x ≡ get_or w 5 0
    → f ≡ get_or w 6 0 → n ≡ get_or w 7 0 → z ≡ get_or w 8 0 → v ≡ get_or w 9 0 → d ≡ get_or w 10 0
    → p ≡ get_or w 12 0 → q ≡ get_or w 13 0
    → row_of (record {
      offset = a;
      end_offset = e;
      size = s;
      mark = m;
      kind = k;
      index = x;
      first_link = f;
      link_count = n;
      record_size = z;
      invalidation_bytes = v;
      record_id_len = d;
      from_block = p;
      from_link = q;
    }) ≡ row_of_words w
unfolding row_of row_of_words
row_read w k e0 e1 e2 e3 e4 e5 e6 e7 e8 e9 e10 e12 e13 = rw (e0, e1, e2, e3, e4, e5, e6, e7, e8, e9, e10, e12, e13)

pub link_is : (l : List ℕ) (i : ℕ) → link_at i l ≡ record { target = get_or l (i * pair_words) 0; found = get_or l (i * pair_words + 1) 0 }
unfolding link_at link_of_words
link_is l i =
    let z : i * pair_words + 0 ≡ i * pair_words = omega arith in
    ap₂ (λ (t f : ℕ). record { target = t; found = f }) (row_word pair_words i 0 l (omega arith) ∙ ap (λ (j : ℕ). get_or l j 0) z) (row_word pair_words i 1 l (omega arith))

module _ {A : Type 0} (k : ℕ) (f : List ℕ → A) where
  pub table_at : (n i : ℕ) (t : List ℕ) (d : A) → i < n → get_or (table k f n t) i d ≡ f (take k (drop (i * k) t))
  unfolding table
  table_at zero i t d h = absurd (omega arith)
  table_at (suc n) i t d h = go (place n i) (table_at n i t d)
    where
      go : Place n i → (i < n → get_or (table k f n t) i d ≡ f (take k (drop (i * k) t))) → get_or (table k f n t ++ f (take k (drop (n * k) t)) ∷ []) i d ≡ f (take k (drop (i * k) t))
      go (less e) ih = get_or-append (table k f n t) (f (take k (drop (n * k) t)) ∷ []) d i (rw table_length e) ∙ ih e
      go (same e) ih =
          let z : i ≡ length (table k f n t) = omega (arith, table_length k f n t) in
          ap (λ (j : ℕ). get_or (table k f n t ++ f (take k (drop (n * k) t)) ∷ []) j d) z
          ∙ get_or-append_seam (table k f n t) (f (take k (drop (n * k) t))) [] d ∙ ap (λ (j : ℕ). f (take k (drop (j * k) t))) (sym e)
      go (more e) ih = absurd (omega arith)

  pub table_cons : (n : ℕ) (t : List ℕ) → table k f (suc n) t ≡ f (take k t) ∷ table k f n (drop k t)
  unfolding table
  table_cons zero t = let e : 0 * k ≡ 0 = omega arith in rw e
  table_cons (suc n) t =
      let m : suc n * k ≡ k + n * k = omega (arith, suc-mul n k) in
      let e : drop (suc n * k) t ≡ drop (n * k) (drop k t) = ap (λ (j : ℕ). drop j t) m ∙ sym (drop-drop (n * k) k t) in
      ap₂ (λ (x : List A) (y : List ℕ). x ++ f (take k y) ∷ []) (table_cons n t) e

  -- rows whose words are g's, with any words behind them
  module _ (g : A → List ℕ) (sized : (x : A) → length (g x) ≡ k) (back : (x : A) → f (g x) ≡ x) where
    table_back : (xs : List A) (z : List ℕ) → table k f (length xs) (concat_map g xs ++ z) ≡ xs
    unfolding table concat_map
    table_back [] z = refl
    table_back (x ∷ xs) z =
        table_cons (length xs) ((g x ++ concat_map g xs) ++ z)
        ∙ rw (append_assoc, take_at (g x) (concat_map g xs ++ z) k (sized x), drop_at (g x) (concat_map g xs ++ z) k (sized x), back) (ap (λ (ys : List A). x ∷ ys) (table_back xs z))

pub rows_at : (n i : ℕ) (b : List ℕ) (d : Row) → i < n → get_or (held_rows n b) i d ≡ row_at i b
unfolding held_rows row_at
rows_at n i b d h = table_at block_row_words row_of_words n i b d h

pub links_at : (n i : ℕ) (l : List ℕ) (d : Link) → i < n → get_or (held_links n l) i d ≡ link_at i l
unfolding held_links link_at
links_at n i l d h = table_at pair_words link_of_words n i l d h

pub rows_length : (n : ℕ) (b : List ℕ) → length (held_rows n b) ≡ n
unfolding held_rows
rows_length n b = table_length block_row_words row_of_words n b

pub links_length : (n : ℕ) (l : List ℕ) → length (held_links n l) ≡ n
unfolding held_links
links_length n l = table_length pair_words link_of_words n l

-- a row is read off its own words, whatever its tree mark
pub row_again : (v : List ℕ) (x : Row) → row_of_words (row_words v x) ≡ x
unfolding row_of_words row_words
row_again v x = rw (kind_again x.kind)

row_sized : (v : List ℕ) (x : Row) → length (row_words v x) ≡ block_row_words
unfolding row_words
row_sized v x = refl

pub link_again : (x : Link) → link_of_words (link_words x) ≡ x
unfolding link_of_words link_words
link_again x = refl

link_sized : (x : Link) → length (link_words x) ≡ pair_words
unfolding link_words
link_sized x = refl

-- tables read back
pub rows_back : (v : List ℕ) (ws : List Row) (z : List ℕ) → held_rows (length ws) (concat_map (row_words v) ws ++ z) ≡ ws
unfolding held_rows
rows_back v ws z = table_back block_row_words row_of_words (row_words v) (row_sized v) (row_again v) ws z

pub links_back : (ls : List Link) (z : List ℕ) → held_links (length ls) (concat_map link_words ls ++ z) ≡ ls
unfolding held_links
links_back ls z = table_back pair_words link_of_words link_words link_sized link_again ls z
