-- From zeroed tables over the walk to the layout that stands in them, step by step, and how each step refuses. Assumes nothing.
use Rattle.std.specs.Prelude as std
use Rattle.std.specs.Result.{IsErrAnd}
use mathlib.Core.Path.{◌≡◌, refl, sym, ap, ◌∙◌}
use mathlib.Core.List.{List, [], ◌++◌, map}
use Prim.Native.Nat.{ℕ, ◌-◌, ◌*◌, ◌/◌, ◌≤◌, ◌<◌}
use native.Mathlib.Omega.{arith}
use lib.ListN.{length, take, drop, replicate, length-append, length-replicate}
use lib.Seq.{length-take-le}
use borrow.Author.Tests.{le-leb, lt-leb}
use Rattle.fmt.proofs.Room.{drop_replicate}
use Rattle.mdf4.specs.Bytes.{Range, concat_map}
use Rattle.mdf4.specs.Act.{refusal, Result, Out, ok, err, and_then, check, Stop, Row, State, reason}
use Rattle.mdf4.specs.Walk.{walk, start}
use Rattle.mdf4.specs.Layout.{sort, compute_gaps, Layout, layout_of, walk_state, gaps_fitted, layout_if, layout}
use Rattle.mdf4.specs.Demand3.{ranges_in}
use Rattle.mdf4.specs.Answers.{Lent, limits, block_row_words, pair_words, row_words, link_words, range_words, filled, laid}
use Rattle.mdf4.proofs.Walk.{walk_inv}
use Rattle.mdf4.proofs.Laid.{state_walked}
use Rattle.mdf4.proofs.Finalized.{whole}
use Rattle.mdf4.proofs.Order.{sort_length}
use Rattle.tables.specs.Rows.{table, held_rows, held_links}
use Rattle.tables.specs.Blocks.{Ordered}
use Rattle.tables.specs.Gaps.{range_of, Listed}
use Rattle.mdf4.proofs.Demand3.{rows_in}
use Rattle.tables.proofs.Chunks.{map-table}
use Rattle.tables.proofs.Words.{rows_length, links_length}
use Rattle.walk_state.specs.Held.{holds, outcome, Walks}
use Rattle.walk_state.specs.Within.{held, none, Within}
use Rattle.walk_state.specs.declared.Walk.{Walk}
use Rattle.walk_state.specs.declared.Walker.{Walker}
use Rattle.walk_state.proofs.Start.{held_none, within_none}
use Rattle.blocks.specs.Errors.{numbers}
use Rattle.blocks.specs.declared.error.MdfError.{MdfError}
use Rattle.file_layout.specs.declared.LentTables.{LentTables}
use Rattle.file_layout.specs.declared.Rows.{Rows}
use Rattle.file_layout.specs.Tables.{lent_by, Zeroed, Joins, WalkMet, Stands, LaidMet}
use Rattle.file_layout.specs.Tables as tables

-- what an answer of the walk says, without its stopping block
said_state : (m : Result Stop (Unit {0} × State)) (x : std.Result (Unit {0}) MdfError) (s : State) → outcome (λ (u : Unit {0}). u) x s ≡ reason m
    → and_then (reason m) (λ p. ok p.1) ≡ and_then (outcome (λ (u : Unit {0}). u) x s) (λ p. ok p.1)
said_state m x s e = rw e

-- words and zeros behind them
pub filled_is : (k : ℕ) (xs t : List ℕ) → t ≡ xs ++ replicate k 0 → t ≡ filled (length t) xs
unfolding filled
filled_is k xs t e =
    let n : k ≡ length t - length xs = omega (arith, ap length e, length-append xs (replicate {A = ℕ} k 0), length-replicate {A = ℕ} k 0) in
    e ∙ ap (λ (j : ℕ). xs ++ replicate {A = ℕ} j 0) n

zeros_long : (n : ℕ) {t : List ℕ} → t ≡ replicate n 0 → length t ≡ n
zeros_long n e = ap length e ∙ length-replicate {A = ℕ} n 0

-- the counts of a walk that starts, as `Walk::default` ensures them
abbrev IsNone : Walk → Type 0
IsNone k = (k.visited ≡ 0) × ((k.blocks ≡ 0) × ((k.links ≡ 0) × ((k.dg ≡ 0) × ((k.cg ≡ 0) × ((k.cn ≡ 0) × ((k.from_block ≡ 0) × (k.from_link ≡ 0)))))))

none_is : (k : Walk) → IsNone k → k ≡ none
none_is k d =
    let e : ◌≡◌ {A = Walk} (record {
      visited = k.visited;
      blocks = k.blocks;
      links = k.links;
      dg = k.dg;
      cg = k.cg;
      cn = k.cn;
      from_block = k.from_block;
      from_link = k.from_link;
    }) none = rw (d.0, d.1.0, d.1.1.0, d.1.1.1.0, d.1.1.1.1.0, d.1.1.1.1.1.0, d.1.1.1.1.1.1.0, d.1.1.1.1.1.1.1) in
    e

-- zeroed tables hold the state in which the walk starts
module _ {t t1 : LentTables} (z : Zeroed t t1) {k : Walk} (d : IsNone k) where
  pub within_zeroed : Within k t1.visited.now t1.blocks.now t1.links.now
  within_zeroed =
      rw (none_is k d, z.visited, z.blocks, z.links) (within_none (length t.visited.now) (length t.blocks.now) (length t.links.now))

  module _ (scratch out : ℕ) where
    start_is : held k t1.visited.now t1.blocks.now t1.links.now ≡ start (limits (lent_by t scratch out))
    unfolding limits
    start_is =
        rw (none_is k d) (held_none t1.visited.now t1.blocks.now t1.links.now
        ∙ rw (zeros_long (length t.visited.now) z.visited, zeros_long (length t.blocks.now) z.blocks, zeros_long (length t.links.now) z.links))

    -- the walk went through, or it refused; the tables are let go
    module _ {w w1 : Walker} (i : holds w ≡ held k t1.visited.now t1.blocks.now t1.links.now) where
      walked : {x : std.Result (Unit {0}) MdfError} → Walks w x w1 walk
          → walk_state (limits (lent_by t scratch out)) w.file.now ≡ and_then (outcome (λ (u : Unit {0}). u) x (holds w1)) (λ p. ok p.1)
      unfolding walk_state
      walked m = rw (← start_is, ← i) (said_state _ _ _ m.says)

      pub walk_met : {u : Unit {0}} {t2 : LentTables} → Walks w (std.Ok u) w1 walk
          → t2.visited.now ≡ w1.visited.now → t2.blocks.now ≡ w1.blocks.now → t2.links.now ≡ w1.links.now → t2.gaps.now ≡ t1.gaps.now
          → length w.visited.now ≡ length t1.visited.now → length w.blocks.now ≡ length t1.blocks.now → length w.links.now ≡ length t1.links.now
          → WalkMet (lent_by t scratch out) w.file.now (std.Ok w1.walk) t2
      unfolding and_then
      walk_met m ev eb el eg nv nb nl = record {
        is = record {
          is = rw (ev, eb, el) (walked m);
          within = rw (ev, eb, el) w1.within;
          visited_long = ap length ev ∙ m.keeps.visited_long ∙ nv ∙ zeros_long (length t.visited.now) z.visited;
          blocks_long = ap length eb ∙ m.keeps.blocks_long ∙ nb ∙ zeros_long (length t.blocks.now) z.blocks;
          links_long = ap length el ∙ m.keeps.links_long ∙ nl ∙ zeros_long (length t.links.now) z.links;
          gaps_zero = eg ∙ z.gaps;
        };
      }

      walk_refuses : {e : MdfError} → Walks w (std.Err e) w1 walk → walk_state (limits (lent_by t scratch out)) w.file.now ≡ err (numbers e)
      unfolding and_then
      walk_refuses m = walked m

      pub walk_stopped : {e : MdfError} {x : std.Result Walk MdfError} {t2 : LentTables} → IsErrAnd x (λ y. y ≡ e) → Walks w (std.Err e) w1 walk
          → WalkMet (lent_by t scratch out) w.file.now x t2
      walk_stopped {x = std.Ok a} h m = absurd h
      walk_stopped {x = std.Err a} h m = record { is = rw h (walk_refuses m) }

-- a refusal that `?` hands up is the layout's
laid_stopped : {asked : Out (Unit {0})} {n : Lent} {r : List ℕ} {t : LentTables} (e : MdfError) (x : std.Result Rows MdfError)
    → IsErrAnd x (λ y. y ≡ e) → layout_if asked (limits n) (n.gaps / pair_words) r ≡ err (numbers e) → LaidMet asked n r x t
laid_stopped e (std.Ok a) h p = absurd h
laid_stopped e (std.Err a) h p = record { is = rw h p }

-- the walk's
pub walk_handed : {asked : Out (Unit {0})} {n : Lent} {r : List ℕ} {t : LentTables} {e : MdfError} {x : std.Result Rows MdfError}
    → IsErrAnd x (λ y. y ≡ e) → WalkMet n r (std.Err e) t → LaidMet asked n r x t
unfolding layout_if and_then
walk_handed h m = laid_stopped _ _ h (rw m.is)

-- what an entry asks behind the walk is refused, or granted
module _ {n : Lent} {r : List ℕ} {t : LentTables} {w : Walk} (k : tables.Walks n r w t) where
  pub asked_handed : {asked : Out (Unit {0})} (e : MdfError) {x : std.Result Rows MdfError} → IsErrAnd x (λ y. y ≡ e) → err (numbers e) ≡ asked
      → LaidMet asked n r x t
  unfolding layout_if and_then
  asked_handed e h p = laid_stopped _ _ h (rw (k.is, ← p))

  pub identified : 64 ≤ length r
  identified = whole n r (held w t.visited.now t.blocks.now t.links.now) k.is

pub granted : {asked : Out (Unit {0})} {n : Lent} {r : List ℕ} {t : LentTables} {x : std.Result Rows MdfError} → asked ≡ ok tt
    → LaidMet (ok tt) n r x t → LaidMet asked n r x t
granted h m = rw h m

-- tables have the blocks and gaps of themselves
pub joined : (t : LentTables) → Joins t t t
joined t = record { visited = refl; blocks = refl; links = refl; gaps = refl }

-- the walk went through to w, the rows are ordered and the gaps are listed
module _ {n : Lent} {r b3 g3 : List ℕ} {t : LentTables} {w : Walk} {count : ℕ} (k : tables.Walks n r w t)
    (o : Ordered w.blocks t.blocks.now b3)
    (h : Listed (compute_gaps (length r) 0 (map range_of (table block_row_words (λ row. row) w.blocks b3))) t.gaps.now g3 count) where
  abbrev rows : List Row
  rows = held_rows w.blocks t.blocks.now

  abbrev shown : Layout
  shown = layout_of r (held w t.visited.now t.blocks.now t.links.now)

  abbrev spare : List ℕ
  spare = replicate {A = ℕ} (length t.blocks.now - length (concat_map (row_words []) rows)) 0

  abbrev found : List Range
  found = compute_gaps (length r) 0 (map range_of (table block_row_words (λ row. row) w.blocks b3))

  ordered : b3 ≡ concat_map (row_words []) (sort rows) ++ spare
  unfolding filled held
  ordered =
      let walked = held w t.visited.now t.blocks.now t.links.now in
      let inv = walk_inv (limits n) r walked (state_walked (limits n) r walked k.is) in
      o.rows rows spare k.within.rows.is (sym (rows_length w.blocks t.blocks.now)) inv.apart

  sorted_count : w.blocks ≡ length (sort rows)
  sorted_count = sym (sort_length rows ∙ rows_length w.blocks t.blocks.now)

  gaps_are : found ≡ shown.gaps
  unfolding layout_of held
  gaps_are =
      let words : List ℕ = concat_map (row_words []) (sort rows) ++ spare in
      ap (compute_gaps (length r) 0)
      (map-table block_row_words w.blocks b3 (omega arith) ∙ ap (ranges_in block_row_words w.blocks) ordered
      ∙ ap (λ (j : ℕ). ranges_in block_row_words j words) sorted_count ∙ rows_in [] (sort rows) spare)

  count_is : count ≡ length shown.gaps
  count_is = h.count ∙ ap length gaps_are

  gaps_long : length g3 ≡ n.gaps
  gaps_long = h.long ∙ zeros_long n.gaps k.gaps_zero

  -- refusal 13
  pub gaps_refused : length g3 / pair_words < count
      → layout_if (ok tt) (limits n) (n.gaps / pair_words) r ≡ err (refusal 13 0 (length g3 / pair_words) count)
  unfolding layout_if gaps_fitted and_then check
  gaps_refused q =
      rw (gaps_long, count_is, k.is, lt-leb (length shown.gaps) (n.gaps / pair_words) (omega (arith, count_is, gaps_long)))

  -- the gaps fit
  module _ (q : count ≤ length g3 / pair_words) where
    accepted : laid n r ≡ ok shown
    unfolding laid layout layout_if gaps_fitted and_then check
    accepted = rw (k.is, le-leb (length shown.gaps) (n.gaps / pair_words) (omega (arith, count_is, gaps_long)))

    gaps_filled : g3 ≡ filled n.gaps (concat_map range_words shown.gaps)
    gaps_filled =
        let fit : length found ≤ length t.gaps.now / pair_words = omega (arith, h.count, h.long, gaps_long) in
        let zeros : drop (pair_words * length found) t.gaps.now ≡ replicate {A = ℕ} (n.gaps - pair_words * length found) 0
        = ap (drop (pair_words * length found)) k.gaps_zero ∙ drop_replicate (pair_words * length found) n.gaps 0 in
        let words : List ℕ = concat_map range_words found in
        filled_is (n.gaps - pair_words * length found) words g3 (h.held fit ∙ ap (λ (u : List ℕ). words ++ u) zeros)
        ∙ ap (λ (j : ℕ). filled j words) gaps_long ∙ ap (λ (ps : List Range). filled n.gaps (concat_map range_words ps)) gaps_are

    blocks_filled : length b3 ≡ length t.blocks.now → b3 ≡ filled n.blocks (concat_map (row_words []) (sort rows))
    blocks_filled e =
        let words : List ℕ = concat_map (row_words []) (sort rows) in
        filled_is (length t.blocks.now - length (concat_map (row_words []) rows)) words b3 ordered
        ∙ ap (λ (j : ℕ). filled j words) (e ∙ k.blocks_long)

    pub stands : {t3 : LentTables} → length b3 ≡ length t.blocks.now
        → t3.visited.now ≡ t.visited.now → t3.blocks.now ≡ b3 → t3.links.now ≡ t.links.now → t3.gaps.now ≡ g3
        → Stands (ok tt) n r (record { visited = w.visited; blocks = w.blocks; links = w.links; gaps = count }) t3
    unfolding layout_of held
    stands kb ev eb el eg = record {
      layout = shown;
      is = accepted;
      granted = refl;
      fills = record {
        visited = rw ev (k.within.visited.is ∙ ap (λ (j : ℕ). filled j (take w.visited t.visited.now)) k.visited_long);
        blocks = rw eb (blocks_filled kb);
        links = rw el (k.within.links.is ∙ ap (λ (j : ℕ). filled j (concat_map link_words (held_links w.links t.links.now))) k.links_long);
        gaps = rw eg gaps_filled;
        visited_count = sym (length-take-le w.visited t.visited.now k.within.visited.fits);
        blocks_count = sorted_count;
        links_count = sym (links_length w.links t.links.now);
        gaps_count = count_is;
      };
      visited_fit = rw ev k.within.visited.fits;
      blocks_fit = rw eb (omega (arith, k.within.rows.fits));
      links_fit = rw el k.within.links.fits;
      gaps_fit = rw eg (omega (arith, gaps_long));
    }
