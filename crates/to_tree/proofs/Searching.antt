-- Laws of the children that a block's links lead to. Assumes nothing.
use Rattle.std.proofs.Common.{◌≡◌, refl, sym, ap, ◌∙◌, ℕ, suc, ◌+◌, ◌≤◌, ◌<◌, List}
use Rattle.std.proofs.Common.{[], ◌∷◌, Option, Some, None, length, get_or, drop, map, add-one, arith}
use lib.ListN.{drop_of_length-le}
use Rattle.std.proofs.Math.Seq.{drop-cons}
use Rattle.std.proofs.lemmas.Bool.{ne_eqb}
use Rattle.std.proofs.lemmas.List.{length-map, get_or-map}
use Rattle.mdf4.specs.Act.{Row, Link}
use Rattle.mdf4.specs.Kinds.{null}
use Rattle.mdf4.specs.Tree.{child_of, children}
use Rattle.mdf4.proofs.Order.{Rising}
use Rattle.mdf4.proofs.TreeCode.{search_hit, search_miss}
use Rattle.tables.specs.Rows.{row_of_words, link_of_words}
use Rattle.block_search.specs.Search.{Found}
use Rattle.block_search.proofs.Searching.{rising_less}
use Rattle.to_tree.specs.Search.{row_in, Leads, child, children_from, Next}

-- the block that a link leads to
pub leads_none : (bs : List (List ℕ)) (t : ℕ) → t ≡ 0 → Leads bs t None
unfolding child_of
leads_none bs t z = record { row = tt; child = λ r i l e. let null : l.target ≡ 0 = e ∙ z in rw null }

module _ (bs : List (List ℕ)) where
  abbrev rows : List Row
  rows = map row_of_words bs

  d : Row
  d = row_in bs 0

  row_is : (i : ℕ) → i < length bs → get_or rows i d ≡ row_in bs i
  row_is i h = get_or-map row_of_words bs i [] d h

  pub leads_row : (t : ℕ) (r : Option ℕ) → (t ≡ 0 → ⊥) → Found bs t r → Leads bs t r
  unfolding child_of
  leads_row t (Some r) nz f = record { row = f.hit.0; child = hit }
    where
      hit : Rising rows → (i : ℕ) (l : Link) → l.target ≡ t → child_of i l rows ≡ child i (row_in bs r)
      hit u i l e =
          let k : r < length rows = omega (arith, length-map bs row_of_words, f.hit.0) in
          let o : (get_or rows r d).off ≡ l.target = ap (λ (w : Row). w.off) (row_is r f.hit.0) ∙ f.hit.1 ∙ sym e in
          rw (ne_eqb l.target 0 (λ z. nz (sym e ∙ z)))
          (search_hit i l.target rows r d k o (λ j q p. omega (arith, rising_less rows j r d u q k)) ∙ ap (child i) (row_is r f.hit.0))
  leads_row t None nz f = record { row = tt; child = miss }
    where
      miss : Rising rows → (i : ℕ) (l : Link) → l.target ≡ t → child_of i l rows ≡ []
      miss u i l e =
          rw (ne_eqb l.target 0 (λ z. nz (sym e ∙ z)))
          (search_miss i l.target rows d (λ j q p.
          let k : j < length bs = omega (arith, length-map bs row_of_words) in
          f.miss u j k (sym (ap (λ (w : Row). w.off) (row_is j k)) ∙ p ∙ e)))

-- children by the links from a place on
pub from_cons : (i : ℕ) (ls : List Link) (ws : List Row) (d : Link) → i < length ls
    → children_from i ls ws ≡ children i (get_or ls i d ∷ drop (i + 1) ls) ws
unfolding children_from
from_cons i ls ws d h = rw (add-one, drop-cons ls i d h)

pub from_next : (i : ℕ) (ls : List Link) (ws : List Row) → children (suc i) (drop (i + 1) ls) ws ≡ children_from (i + 1) ls ws
unfolding children_from
from_next i ls ws = rw add-one

pub from_end : (i : ℕ) (ls : List Link) (ws : List Row) → length ls ≤ i → children_from i ls ws ≡ []
unfolding children_from children
from_end i ls ws h = rw (drop_of_length-le ls {i = i} h)

-- the target of a link, as the code reads it
target_is : (words : List (List ℕ)) (i : ℕ) (d : List ℕ) → i < length words
    → (get_or (map link_of_words words) i null).target ≡ get_or (get_or words i d) 0 0
unfolding link_of_words
target_is words i d h = ap (λ (l : Link). l.target) (get_or-map link_of_words words i d null h)

-- no link from `from` up to i leads to a row
pub record Passed (bs : List (List ℕ)) (ls : List Link) (from i : ℕ) : Type 0 where
  pub least : from ≤ i
  pub most : i ≤ length ls
  pub rest : Rising (map row_of_words bs) → children_from from ls (map row_of_words bs) ≡ children_from i ls (map row_of_words bs)

module _ (bs words : List (List ℕ)) (from : ℕ) where
  abbrev links : List Link
  links = map link_of_words words

  abbrev ws : List Row
  ws = map row_of_words bs

  long : length links ≡ length words
  long = length-map words link_of_words

  pub passed_none : from ≤ length words → Passed bs links from from
  passed_none h = record { least = omega arith; most = rw long h; rest = λ r. refl }

  module _ (i : ℕ) (p : Passed bs links from i) (h : i < length words) (d : List ℕ) where
    pub passed_one : {r : Option ℕ} → r ≡ None → Leads bs (get_or (get_or words i d) 0 0) r → Passed bs links from (i + 1)
    unfolding children
    passed_one {r} none q = record { least = omega (arith, p.least); most = omega (arith, long); rest = rest }
      where
        rest : Rising ws → children_from from links ws ≡ children_from (i + 1) links ws
        rest u =
            let e : child_of i (get_or links i null) ws ≡ [] = q.child u i (get_or links i null) (target_is words i d h) ∙ rw none in
            p.rest u ∙ from_cons i links ws null (rw long h) ∙ rw e (from_next i links ws)

    pub next_row : {r : Option ℕ} (row : ℕ) → r ≡ Some row → Leads bs (get_or (get_or words i d) 0 0) r
        → Next bs links from (Some (record { place = i; row = row }))
    next_row {r} row some q =
        let found : Leads bs (get_or (get_or words i d) 0 0) (Some row) = rw some at q in
        record {
          inside = rw long h;
          stops = record {
            least = p.least;
            most = p.most;
            row = λ z. found.row;
            child_at = λ u z. found.child u i (get_or links i null) (target_is words i d h);
            rest = p.rest;
          };
        }

  pub next_none : (i : ℕ) → length words ≤ i → Passed bs links from i → Next bs links from None
  next_none i h p = let e : i ≡ length links = omega (arith, long, p.most) in record {
    inside = tt;
    stops = record {
      least = omega (arith, p.least);
      most = omega arith;
      row = λ z. absurd (omega arith);
      child_at = λ u z. absurd (omega arith);
      rest = rw e at p.rest;
    };
  }
