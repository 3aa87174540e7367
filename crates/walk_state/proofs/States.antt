-- What a stored word or row does to the state that the tables hold. Assumes nothing.
use Rattle.std.proofs.Common.{◌≡◌, refl, ap, ◌∙◌, Bool, true, false, List, [], ◌∷◌, ◌++◌, ℕ, ◌+◌, ◌*◌, ◌≤◌, ◌<◌, length, take, set, arith}
use Rattle.std.proofs.Common.{add-one, append-nil, length-set}
use Rattle.std.proofs.lemmas.List.Edits.{sets}
use lib.Seq.{length-take-le, take-suc-set, length-sets}
use borrow.Author.Tests.{lt-ltb, le-ltb}
use Rattle.mdf4.specs.Bytes.{bit}
use Rattle.mdf4.specs.Act.{Kind, DG, CG, CN, Row, Link, ok, err, refusal, and_then, check, marked, visit, reason}
use Rattle.mdf4.specs.Kinds.{is}
use Rattle.mdf4.specs.Walk.{push}
use Rattle.mdf4.specs.Answers.{row_words, link_words, block_row_words}
use Rattle.walk_state.specs.declared.Walk.{Walk}
use Rattle.tables.specs.Rows.{Used, row_of_words, link_of_words, held_rows, held_links}
use Rattle.walk_state.specs.Within.{held, Within, one_listed, with_links}
use Rattle.tables.proofs.Tables.{used_more, row_more, words_more, table_length}
use Rattle.tables.proofs.Words.{row_again, link_again}

pub links_held : (w : Walk) (v b l : List ℕ) → length (held w v b l).links ≡ w.links
unfolding held held_links
links_held w v b l = table_length 2 link_of_words w.links l

-- the counts with one offset more
abbrev pub one_visited : Walk → Walk
one_visited w = record {
  visited = w.visited + 1;
  blocks = w.blocks;
  links = w.links;
  dg = w.dg;
  cg = w.cg;
  cn = w.cn;
  from_block = w.from_block;
  from_link = w.from_link;
}

module _ (w : Walk) (v b l : List ℕ) (h : Within w v b l) (at : ℕ) where
  take_more : w.visited < length v → take (w.visited + 1) (set v w.visited at) ≡ take w.visited v ++ at ∷ []
  take_more m = rw add-one (take-suc-set v w.visited at m)

  pub visit_within : w.visited < length v → Within (one_visited w) (set v w.visited at) b l
  visit_within m =
      let long : length (take w.visited v) ≡ w.visited = length-take-le w.visited v (omega arith) in
      let used : Used (w.visited + 1) (take w.visited v ++ at ∷ []) (set v w.visited at) = used_more w.visited (take w.visited v)
      (at ∷ []) v h.visited long (omega arith) in
      record { visited = rw (take_more m) used; rows = h.rows; links = h.links; dg = h.dg; cg = h.cg; cn = h.cn }

  module _ (k : Kind) (file : List ℕ) where
    pub visit_on : w.visited < length v → ok (tt, held (one_visited w) (set v w.visited at) b l) ≡ reason (visit k at file (held w v b l))
    unfolding held visit and_then check marked reason
    visit_on m =
        let long : length (take w.visited v) ≡ w.visited = length-take-le w.visited v (omega arith) in
        rw (take_more m, long, lt-ltb w.visited (length v) m, length-set)

    pub visit_full : length v ≤ w.visited → err (refusal 10 at (length v) 0) ≡ reason (visit k at file (held w v b l))
    unfolding held visit and_then check reason
    visit_full m =
        let long : length (take w.visited v) ≡ w.visited = length-take-le w.visited v (omega (arith, h.visited.fits)) in
        rw (long, le-ltb w.visited (length v) m)

row_sized : (x : Row) → length (row_words [] x) ≡ block_row_words
unfolding row_words
row_sized x = refl

link_sized : (x : Link) → length (link_words x) ≡ 2
unfolding link_words
link_sized x = refl

bit_one : (t : Bool) → bit t ≤ 1
unfolding bit
bit_one true = omega arith
bit_one false = omega arith

-- the row x is stored behind those in use
module _ (w : Walk) (v b l : List ℕ) (room : w.blocks * block_row_words + block_row_words ≤ length b) (k : Kind) (x : Row) where
  pub row_says : held (one_listed k w) v (sets b (w.blocks * block_row_words) (row_words [] x)) l ≡ push k x [] (held w v b l)
  unfolding held held_rows push one_listed
  row_says =
      let n : ℕ = w.blocks in
      let m : held_rows (n + 1) (sets b (n * block_row_words) (row_words [] x)) ≡ held_rows n b ++ x ∷ [] = row_more block_row_words row_of_words (row_words []) row_sized
      (row_again []) n b x room in
      rw (m, length-sets b (n * block_row_words) (row_words [] x), append-nil)

  pub row_within : Within w v b l → Within (one_listed k w) v (sets b (w.blocks * block_row_words) (row_words [] x)) l
  unfolding held_rows one_listed
  row_within h = record {
    visited = h.visited;
    rows = words_more block_row_words row_of_words (row_words []) row_sized (row_again []) w.blocks b x room h.rows;
    links = h.links;
    dg = omega (arith, h.dg, bit_one (is k DG));
    cg = omega (arith, h.cg, bit_one (is k CG));
    cn = omega (arith, h.cn, bit_one (is k CN));
  }

-- the same of the words ws that the code stores
module _ (w w' : Walk) (v b b' l : List ℕ) (room : w.blocks * block_row_words + block_row_words ≤ length b) (k : Kind) (x : Row) (ws : List ℕ) (e : w' ≡ one_listed k w)
    (f : b' ≡ sets b (w.blocks * block_row_words) ws) (g : ws ≡ row_words [] x) where
  pub row_pushed : held w' v b' l ≡ push k x [] (held w v b l)
  row_pushed = rw (e, f, g) (row_says w v b l room k x)

  pub row_fits : Within w v b l → Within w' v b' l
  row_fits h = rw (e, f, g) (row_within w v b l room k x h)

  pub row_grew : w.visited ≤ w'.visited
  unfolding one_listed
  row_grew = rw e (omega arith)

  pub row_long : length b' ≡ length b
  row_long = ap length f ∙ length-sets b (w.blocks * block_row_words) ws

-- the counts with one link more
abbrev pub one_linked : Walk → Walk
one_linked w = record {
  visited = w.visited;
  blocks = w.blocks;
  links = w.links + 1;
  dg = w.dg;
  cg = w.cg;
  cn = w.cn;
  from_block = w.from_block;
  from_link = w.from_link;
}

-- the link x is stored behind those in use
module _ (w : Walk) (v b l : List ℕ) (room : w.links * 2 + 2 ≤ length l) (x : Link) where
  two_sets : set (set l (w.links * 2) x.target) (w.links * 2 + 1) x.found ≡ sets l (w.links * 2) (link_words x)
  unfolding link_words
  two_sets = rw add-one

  pub link_says : held (one_linked w) v b (set (set l (w.links * 2) x.target) (w.links * 2 + 1) x.found) ≡ with_links (x ∷ []) (held w v b l)
  unfolding held held_links with_links
  link_says = rw (two_sets, row_more 2 link_of_words link_words link_sized link_again w.links l x room, length-sets)

  pub link_within : Within w v b l → Within (one_linked w) v b (set (set l (w.links * 2) x.target) (w.links * 2 + 1) x.found)
  unfolding held_links
  link_within h = record {
    visited = h.visited;
    rows = h.rows;
    links = rw two_sets (words_more 2 link_of_words link_words link_sized link_again w.links l x room h.links);
    dg = h.dg;
    cg = h.cg;
    cn = h.cn;
  }
