-- Demand 3 of the entries, in its order, and what document 02's orders add. A call takes the recording r and lends tables and
-- output of the lengths n; it answers a and leaves the words and bytes v, b, l, g, s and o, which `left` puts together. The hypothesis
-- on a call is its contract word for word (src/lib.rt here and in path_entry, list_entry, blank_entry and preview_entry), so what stands
-- here holds of every call. Where an entry takes no scratch table or no output, s or o is []; the output of a path is its words, that of
-- the preview its counts.
use mathlib.Core.Path.{◌≡◌, refl, sym, ap, ◌∙◌}
use mathlib.Core.List.{List, []}
use Prim.Native.Nat.{ℕ}
use lib.ListN.{length, take, replicate}
use Rattle.std.specs.Prelude.{Ok, Err}
use Rattle.mdf4.specs.Bytes.{Range}
use Rattle.mdf4.specs.Act.{Refusal, Out, ok, err}
use Rattle.mdf4.specs.Clear.{clr_bytes}
use Rattle.mdf4.specs.Blank.{zeroed}
use Rattle.mdf4.specs.Answers as definition
use Rattle.mdf4.specs.Answers.{Lent, Counts, Exit, Made, layout_exit, to_text_exit, to_tree_exit, path_exit, clear_list_exit, blank_exit, preview_exit, blank_recording}
use Rattle.mdf4.specs.Demand3.{Alike, Again, Tables, Pathed, Cleared, Finalizing, Unasked}
use Rattle.mdf4.specs.Blanked.{Blanks, Previews, After, untotalled, uncounted, preview_uncounted}
use Rattle.mdf4.proofs.Results.{never}
use Rattle.mdf4.proofs.Finalized.{finalizing, blank_finalizing, preview_finalizing, layout_unasked, to_text_unasked, to_tree_unasked, path_unasked}
use Rattle.mdf4.proofs.Demand3 as law
use Rattle.mdf4.proofs.Blanked as blanked
use Rattle.blocks.specs.Errors.{numbers}
use Rattle.blocks.proofs.Errors as errors
use Rattle.answers.specs.Entries.{Answer, answered, exit_with, left}

answer_is : (a : Answer) (v b l g s o : List ℕ) → (left a v b l g s o).answer ≡ answered a
unfolding exit_with
answer_is a v b l g s o = refl

module _ (n : Lent) (r : List ℕ) (a : Answer) (v b l g s o : List ℕ) (c : Counts) (accepted : answered a ≡ ok c) where
  -- Two recordings. The second has the same length and the same lengths lent, and agrees with the first, an accepted one, on its read
  -- bytes (`Alike`): it gets the same answer, and the same words and bytes are left in all lent memory.
  module _ (r' : List ℕ) (a' : Answer) (v' b' l' g' s' o' : List ℕ) (alike : Alike n r r') where
    again : (entry : Lent → List ℕ → Exit) → Again entry → left a v b l g s o ≡ entry n r → left a' v' b' l' g' s' o' ≡ entry n r'
        → left a' v' b' l' g' s' o' ≡ left a v b l g s o
    again entry h p q =
        let e : (entry n r).answer ≡ ok c = ap (λ (x : Exit). x.answer) (sym p) ∙ answer_is a v b l g s o ∙ accepted in
        q ∙ h.same n r r' c e alike ∙ sym p

    pub layout_again : left a v b l g s o ≡ layout_exit n r → left a' v' b' l' g' s' o' ≡ layout_exit n r'
        → left a' v' b' l' g' s' o' ≡ left a v b l g s o
    layout_again = again layout_exit law.layout_again

    pub to_text_again : left a v b l g s o ≡ to_text_exit n r → left a' v' b' l' g' s' o' ≡ to_text_exit n r'
        → left a' v' b' l' g' s' o' ≡ left a v b l g s o
    to_text_again = again to_text_exit law.to_text_again

    pub to_tree_again : left a v b l g s o ≡ to_tree_exit n r → left a' v' b' l' g' s' o' ≡ to_tree_exit n r'
        → left a' v' b' l' g' s' o' ≡ left a v b l g s o
    to_tree_again = again to_tree_exit law.to_tree_again

    -- of the path to the same offset
    pub path_again : (at : ℕ) → left a v b l g s o ≡ path_exit at n r → left a' v' b' l' g' s' o' ≡ path_exit at n r'
        → left a' v' b' l' g' s' o' ≡ left a v b l g s o
    path_again at = again (path_exit at) (law.path_again at)

    pub clear_list_again : left a v b l g s o ≡ clear_list_exit n r → left a' v' b' l' g' s' o' ≡ clear_list_exit n r'
        → left a' v' b' l' g' s' o' ≡ left a v b l g s o
    clear_list_again = again clear_list_exit law.clear_list_again

    -- of the blanker: nothing is claimed of the bytes that are not read, which the two recordings may leave otherwise
    pub blank_again : left a v b l g s o ≡ blank_exit n r → left a' v' b' l' g' s' o' ≡ blank_exit n r'
        → left a' v' b' l' g' s' o' ≡ left a v b l g s o
    blank_again = again blank_exit law.blank_again

    -- of the preview: nothing is claimed of what it counts, the counts and their total
    pub preview_again : left a v b l g s o ≡ preview_exit n r → left a' v' b' l' g' s' o' ≡ preview_exit n r'
        → uncounted (left a' v' b' l' g' s' o') ≡ uncounted (left a v b l g s o)
    unfolding uncounted untotalled preview_uncounted
    preview_again p q =
        let e : (preview_exit n r).answer ≡ ok c = ap (λ (x : Exit). x.answer) (sym p) ∙ answer_is a v b l g s o ∙ accepted in
        ap uncounted q ∙ (law.preview_again).same n r r' _ (ap untotalled e) alike ∙ ap uncounted (sym p)

  -- The tables (`Tables`). Listed offsets strictly ascend; each byte lies in exactly one gap if no extent holds it, else in none; each gap
  -- is one as document 01 has it; the gaps' sizes add up to the number of bytes that no extent holds. Document 02, order 3 (`Followed`): the
  -- ID and the header were listed by no link; from every other row, its last two words lead to a listed block whose link at that position
  -- has the row's offset as its target, and on to the header, in fewer steps than there are rows.
  tables : (entry : Lent → List ℕ → Exit) → ((entry n r).answer ≡ ok c → Tables r (entry n r) c) → left a v b l g s o ≡ entry n r
      → Tables r (left a v b l g s o) c
  tables entry h p =
      let e : (entry n r).answer ≡ ok c = ap (λ (x : Exit). x.answer) (sym p) ∙ answer_is a v b l g s o ∙ accepted in
      rw p (h e)

  pub layout_tables : left a v b l g s o ≡ layout_exit n r → Tables r (left a v b l g s o) c
  layout_tables = tables layout_exit (law.layout_tables n r c)

  pub to_text_tables : left a v b l g s o ≡ to_text_exit n r → Tables r (left a v b l g s o) c
  to_text_tables = tables to_text_exit (law.to_text_tables n r c)

  pub to_tree_tables : left a v b l g s o ≡ to_tree_exit n r → Tables r (left a v b l g s o) c
  to_tree_tables = tables to_tree_exit (law.to_tree_tables n r c)

  pub path_tables : (at : ℕ) → left a v b l g s o ≡ path_exit at n r → Tables r (left a v b l g s o) c
  path_tables at = tables (path_exit at) (law.path_tables n r c at)

  pub clear_list_tables : left a v b l g s o ≡ clear_list_exit n r → Tables r (left a v b l g s o) c
  clear_list_tables = tables clear_list_exit (law.clear_list_tables n r c)

  pub blank_tables : left a v b l g s o ≡ blank_exit n r → Tables r (left a v b l g s o) c
  blank_tables = tables blank_exit (law.blank_tables n r c)

  pub preview_tables : left a v b l g s o ≡ preview_exit n r → Tables r (left a v b l g s o) c
  preview_tables = tables preview_exit (law.preview_tables n r c)

  -- The path (`Pathed`). Where a row but the ID's has the offset, the output starts at the header and ends at that offset, and each next
  -- word is the offset of a row that names the word before it; else it is empty.
  pub path_pathed : (at : ℕ) → left a v b l g s o ≡ path_exit at n r → Pathed at (left a v b l g s o) c
  path_pathed at p =
      let e : (path_exit at n r).answer ≡ ok c = ap (λ (x : Exit). x.answer) (sym p) ∙ answer_is a v b l g s o ∙ accepted in
      rw p (law.pathed at n r c e)

  -- The clear list (`Cleared`). Its output is the CLR bytes of ranges; a byte is in one of them exactly when it lies in a gap and is
  -- neither read nor kept; and no list of ranges that holds the same bytes is shorter. Document 02, order 1, of every row of the link
  -- table: where its target is not 0, the mark there starts with ## and 24 bytes lie inside the file, these are read, and no byte up to
  -- target + block_len is in a range. Order 4: the recording's bytes 60 to 63 are 0.
  pub clear_list_cleared : left a v b l g s o ≡ clear_list_exit n r → Cleared n r (left a v b l g s o) c
  clear_list_cleared p =
      let e : (clear_list_exit n r).answer ≡ ok c = ap (λ (x : Exit). x.answer) (sym p) ∙ answer_is a v b l g s o ∙ accepted in
      rw p (law.cleared n r c e)

-- Document 02, order 4, of every call, accepted or refused, with whatever is lent. Clear list, blanker and preview (`Finalizing`): a
-- refusal of the walk comes first; behind the walk, the answer is 16 with the two words exactly if one of the bytes 60 to 63 is not 0.
-- The other entries never answer 16.
module _ (n : Lent) (r : List ℕ) (a : Answer) (v b l g s o : List ℕ) where
  pub clear_list_finalizing : left a v b l g s o ≡ clear_list_exit n r → Finalizing n r (answered a)
  clear_list_finalizing p = rw (← answer_is a v b l g s o, p) (finalizing n r)

  pub blank_finalizes : left a v b l g s o ≡ blank_exit n r → Finalizing n r (answered a)
  blank_finalizes p = rw (← answer_is a v b l g s o, p) (blank_finalizing n r)

  pub preview_finalizes : left a v b l g s o ≡ preview_exit n r → Finalizing n r (answered a)
  preview_finalizes p = rw (← answer_is a v b l g s o, p) (preview_finalizing n r)

  never_16 : (entry : Lent → List ℕ → Exit) → Unasked entry → left a v b l g s o ≡ entry n r → (z : Refusal) → answered a ≡ err z → z.number ≡ 16 → ⊥
  never_16 entry u p z e = u.never_16 n r z (ap (λ (x : Exit). x.answer) (sym p) ∙ answer_is a v b l g s o ∙ e)

  pub layout_never_16 : left a v b l g s o ≡ layout_exit n r → (z : Refusal) → answered a ≡ err z → z.number ≡ 16 → ⊥
  layout_never_16 = never_16 layout_exit layout_unasked

  pub to_text_never_16 : left a v b l g s o ≡ to_text_exit n r → (z : Refusal) → answered a ≡ err z → z.number ≡ 16 → ⊥
  to_text_never_16 = never_16 to_text_exit to_text_unasked

  pub to_tree_never_16 : left a v b l g s o ≡ to_tree_exit n r → (z : Refusal) → answered a ≡ err z → z.number ≡ 16 → ⊥
  to_tree_never_16 = never_16 to_tree_exit to_tree_unasked

  pub path_never_16 : (at : ℕ) → left a v b l g s o ≡ path_exit at n r → (z : Refusal) → answered a ≡ err z → z.number ≡ 16 → ⊥
  path_never_16 at = never_16 (path_exit at) (path_unasked at)

-- what a call's answer says of the exit
told : (a : Answer) (v b l g s o : List ℕ) {x : Exit} → left a v b l g s o ≡ x → x.answer ≡ answered a
told a v b l g s o p = ap (λ (x : Exit). x.answer) (sym p) ∙ answer_is a v b l g s o

-- Document 02, order 5. A call of the blanker takes the recording r and leaves r'.
module _ (n : Lent) (r r' : List ℕ) (a : Answer) (v b l g s : List ℕ)
    (exit : left a v b l g s [] ≡ blank_exit n r) (recording : r' ≡ blank_recording n r) where
  -- A refused call leaves the recording as it was.
  pub blank_untouched : (z : Refusal) → answered a ≡ err z → r' ≡ r
  blank_untouched z e = recording ∙ (blanked.untouched).same n r z (told a v b l g s [] exit ∙ e)

  module _ (c : Counts) (accepted : answered a ≡ ok c) where
    ok_is : (blank_exit n r).answer ≡ ok c
    ok_is = told a v b l g s [] exit ∙ accepted

    -- What every byte is (`Blanks`): 0 where it lies in a gap and is neither read nor kept, else as it was.
    pub blank_blanks : Blanks n r r' (left a v b l g s []) c
    blank_blanks = rw (recording, exit) (blanked.blanks n r c ok_is)

    -- A second blanking, with whatever is lent, changes no byte.
    pub blank_once : (n' : Lent) (r'' : List ℕ) → r'' ≡ blank_recording n' r' → r'' ≡ r'
    blank_once n' r'' e = e ∙ rw recording ((blanked.blank_once).same n r c ok_is n')

    -- Another call, lent n', that answers a1 and leaves v1 .. o1.
    module _ (n' : Lent) (a1 : Answer) (v1 b1 l1 g1 s1 o1 : List ℕ) where
      -- The ranges of a clear list of r are what was zeroed: no byte outside them has moved.
      pub blank_by_list : left a1 v1 b1 l1 g1 s1 o1 ≡ clear_list_exit n' r → (c1 : Counts) → answered a1 ≡ ok c1
          → (ps : List Range) × (take c1.bytes o1 ≡ clr_bytes (length r) ps) × (r' ≡ zeroed ps 0 r)
      unfolding exit_with
      blank_by_list p c1 e =
          let q = (blanked.by_list).same n n' r c c1 ok_is (told a1 v1 b1 l1 g1 s1 o1 p ∙ e) in
          (q.0, ap (λ (x : Exit). take c1.bytes x.out) p ∙ q.1, recording ∙ q.2)

      -- A preview of r showed it (`Previews`): a count is the number of bytes of its range at which r' differs from r, the total that of
      -- the whole recording.
      pub preview_shows : left a1 v1 b1 l1 g1 s1 o1 ≡ preview_exit n' r → (c1 : Counts) → answered a1 ≡ ok c1
          → Previews n' r r' (left a1 v1 b1 l1 g1 s1 o1) c1
      preview_shows p c1 e = rw (recording, p) (blanked.previews n' n r c1 c (told a1 v1 b1 l1 g1 s1 o1 p ∙ e) ok_is)

      -- A preview of r' counts 0 throughout.
      pub preview_none : left a1 v1 b1 l1 g1 s1 o1 ≡ preview_exit n' r' → o1 ≡ replicate n'.out 0
      unfolding exit_with
      preview_none p = ap (λ (x : Exit). x.out) p ∙ rw recording ((blanked.idle).out n r c ok_is n')

      pub preview_total_none : left a1 v1 b1 l1 g1 s1 o1 ≡ preview_exit n' r' → (c1 : Counts) → answered a1 ≡ ok c1 → c1.total ≡ 0
      preview_total_none p c1 e = (blanked.idle).total n r c ok_is n' c1 (rw recording at (told a1 v1 b1 l1 g1 s1 o1 p ∙ e))

      -- Of two calls of an entry with the same lengths, whatever these are, the one with r' answers and leaves what the one with r did.
      module _ (a2 : Answer) (v2 b2 l2 g2 s2 o2 : List ℕ) where
        after : (entry : Lent → List ℕ → Exit) → After entry → entry n' r' ≡ entry n' r
        after entry h = rw recording (h.same n r c ok_is n')

        pub layout_after : left a1 v1 b1 l1 g1 s1 o1 ≡ layout_exit n' r → left a2 v2 b2 l2 g2 s2 o2 ≡ layout_exit n' r'
            → left a2 v2 b2 l2 g2 s2 o2 ≡ left a1 v1 b1 l1 g1 s1 o1
        layout_after p q = q ∙ after layout_exit blanked.layout_after ∙ sym p

        pub to_text_after : left a1 v1 b1 l1 g1 s1 o1 ≡ to_text_exit n' r → left a2 v2 b2 l2 g2 s2 o2 ≡ to_text_exit n' r'
            → left a2 v2 b2 l2 g2 s2 o2 ≡ left a1 v1 b1 l1 g1 s1 o1
        to_text_after p q = q ∙ after to_text_exit blanked.to_text_after ∙ sym p

        pub to_tree_after : left a1 v1 b1 l1 g1 s1 o1 ≡ to_tree_exit n' r → left a2 v2 b2 l2 g2 s2 o2 ≡ to_tree_exit n' r'
            → left a2 v2 b2 l2 g2 s2 o2 ≡ left a1 v1 b1 l1 g1 s1 o1
        to_tree_after p q = q ∙ after to_tree_exit blanked.to_tree_after ∙ sym p

        pub path_after : (at : ℕ) → left a1 v1 b1 l1 g1 s1 o1 ≡ path_exit at n' r → left a2 v2 b2 l2 g2 s2 o2 ≡ path_exit at n' r'
            → left a2 v2 b2 l2 g2 s2 o2 ≡ left a1 v1 b1 l1 g1 s1 o1
        path_after at p q = q ∙ after (path_exit at) (blanked.path_after at) ∙ sym p

        pub clear_list_after : left a1 v1 b1 l1 g1 s1 o1 ≡ clear_list_exit n' r → left a2 v2 b2 l2 g2 s2 o2 ≡ clear_list_exit n' r'
            → left a2 v2 b2 l2 g2 s2 o2 ≡ left a1 v1 b1 l1 g1 s1 o1
        clear_list_after p q = q ∙ after clear_list_exit blanked.clear_list_after ∙ sym p

        pub blank_after : left a1 v1 b1 l1 g1 s1 o1 ≡ blank_exit n' r → left a2 v2 b2 l2 g2 s2 o2 ≡ blank_exit n' r'
            → left a2 v2 b2 l2 g2 s2 o2 ≡ left a1 v1 b1 l1 g1 s1 o1
        blank_after p q = q ∙ after blank_exit blanked.blank_after ∙ sym p

        -- the preview but for what it counts
        pub preview_after : left a1 v1 b1 l1 g1 s1 o1 ≡ preview_exit n' r → left a2 v2 b2 l2 g2 s2 o2 ≡ preview_exit n' r'
            → uncounted (left a2 v2 b2 l2 g2 s2 o2) ≡ uncounted (left a1 v1 b1 l1 g1 s1 o1)
        unfolding preview_uncounted
        preview_after p q = ap uncounted q ∙ after preview_uncounted blanked.preview_after ∙ ap uncounted (sym p)

-- the lengths of the tables alone, as the blanker is lent them
unfoldable pub tables_only : Lent → Lent
tables_only n = record { visited = n.visited; blocks = n.blocks; links = n.links; gaps = n.gaps; scratch = n.scratch; out = 0 }

exit_answer : (n n' : Lent) (m : Out Made) → (definition.exit n' m).answer ≡ (definition.exit n m).answer
unfolding definition.exit
exit_answer n n' (ok x) = refl
exit_answer n n' (err z) = refl

blank_answer : (n : Lent) (r : List ℕ) → (blank_exit (tables_only n) r).answer ≡ (blank_exit n r).answer
unfolding tables_only blank_exit definition.blank_made definition.clearable definition.laid_finalized definition.limits
blank_answer n r = exit_answer n (tables_only n) (definition.blank_made n r)

-- Where a preview is accepted, so is the blanker, lent tables of the same lengths.
pub preview_then_blank : (n : Lent) (r : List ℕ) (a : Answer) (v b l g s o : List ℕ) (c : Counts) → answered a ≡ ok c
    → left a v b l g s o ≡ preview_exit n r
    → (a' : Answer) (v' b' l' g' s' : List ℕ) → left a' v' b' l' g' s' [] ≡ blank_exit (tables_only n) r → (c' : Counts) × (answered a' ≡ ok c')
preview_then_blank n r a v b l g s o c e p a' v' b' l' g' s' q =
    let z = (blanked.shown_first).accepts n r c (told a v b l g s o p ∙ e) in
    (z.0, sym (told a' v' b' l' g' s' [] q) ∙ blank_answer n r ∙ z.1)

-- No call answers 8 (document 02, order 2).
pub never_8 : (a : Answer) {e : Refusal} → answered a ≡ err e → e.number ≡ 8 → ⊥
never_8 (Ok a) p q = never p
never_8 (Err x) {e} p q = let z : numbers x ≡ e = cc in errors.never_8 x (ap (λ (y : Refusal). y.number) z ∙ q)
