-- The state that the counts and the lent tables hold, and what a block and its links are told. No word here names the walker.
use Rattle.std.specs.Prelude.{◌≡◌, cond, List, ◌++◌, ℕ, ◌+◌, ◌*◌, ◌/◌, ◌^◌, ◌≤◌, ◌<◌, leb, ltb, eqb, length, take, get_or, []}
use Rattle.mdf4.specs.Bytes.{bit, concat_map}
use Rattle.mdf4.specs.Act.{refusal, Out, ok, and_then, check, Kind, DG, CG, CN, Row, Link, State}
use Rattle.mdf4.specs.Kinds.{shape, is, mark_in, RecordLayout, records_in}
use Rattle.mdf4.specs.Walk.{content_ok, index_of}
use Rattle.mdf4.specs.Answers.{block_row_words, pair_words, row_words, link_words}
use Rattle.tables.specs.Rows.{held_rows, held_links, Used}
use Rattle.blocks.specs.Kind.{kind_named}
use Rattle.walk_state.specs.declared.Block.{Block}
use Rattle.walk_state.specs.declared.Link as link
use Rattle.walk_state.specs.declared.RecordLayout as layout
use Rattle.walk_state.specs.declared.Walk.{Walk}

unfoldable pub held : Walk → List ℕ → List ℕ → List ℕ → State
held w v b l = record {
  visited = take w.visited v;
  rows = held_rows w.blocks b;
  links = held_links w.links l;
  dg_counter = w.dg;
  cg_counter = w.cg;
  cn_counter = w.cn;
  from_block = w.from_block;
  from_link = w.from_link;
  lent = record { visited = length v; blocks = length b / block_row_words; links = length l / pair_words };
}

-- the counts fit the tables, whose words are those of what they hold, and 0 behind
pub record Within (w : Walk) (v b l : List ℕ) : Type 0 where
  pub visited : Used w.visited (take w.visited v) v
  pub rows : Used (w.blocks * block_row_words) (concat_map (row_words []) (held_rows w.blocks b)) b
  pub links : Used (w.links * pair_words) (concat_map link_words (held_links w.links l)) l
  pub dg : w.dg ≤ w.blocks
  pub cg : w.cg ≤ w.blocks
  pub cn : w.cn ≤ w.blocks

-- nothing in use
abbrev pub none : Walk
none = record { visited = 0; blocks = 0; links = 0; dg = 0; cg = 0; cn = 0; from_block = 0; from_link = 0 }

-- the code's link and record layout as the definition's
abbrev pub link_of : link.Link → Link
link_of l = record { target = l.target; found = l.found }

abbrev pub layout_of : layout.RecordLayout → RecordLayout
layout_of h = record { record_size = h.record_size; invalidation_bytes = h.invalidation_bytes; record_id_len = h.record_id_len }

-- no records
abbrev pub no_layout : layout.RecordLayout
no_layout = record { record_size = 0; invalidation_bytes = 0; record_id_len = 0 }

-- the next index of a kind
unfoldable pub indexed : Walk → Kind → ℕ
indexed w k = cond (is k DG) w.dg (cond (is k CG) w.cg (cond (is k CN) w.cn 0))

-- the counts with one row more
unfoldable pub one_listed : Kind → Walk → Walk
one_listed k w = record {
  visited = w.visited;
  blocks = w.blocks + 1;
  links = w.links;
  dg = w.dg + bit (is k DG);
  cg = w.cg + bit (is k CG);
  cn = w.cn + bit (is k CN);
  from_block = w.from_block;
  from_link = w.from_link;
}

-- more links
unfoldable pub with_links : List Link → State → State
with_links ls s = record {
  visited = s.visited;
  rows = s.rows;
  links = s.links ++ ls;
  dg_counter = s.dg_counter;
  cg_counter = s.cg_counter;
  cn_counter = s.cn_counter;
  from_block = s.from_block;
  from_link = s.from_link;
  lent = s.lent;
}

-- what is asked before a block at a is listed with n links: refusal 7 of its end, then 11 and 12
unfoldable pub room_for : ℕ → ℕ → ℕ → State → Out (Unit {0})
room_for a size n s =
    and_then (check (ltb (a + size) (2 ^ 64)) (refusal 7 a a size)) (λ u.
    and_then (check (ltb (length s.rows) s.lent.blocks) (refusal 11 a s.lent.blocks 0)) (λ u.
    check (leb (length s.links + n) s.lent.links) (refusal 12 a s.lent.links 0)))

-- the row of a block with n links that is pushed in the state s
unfoldable pub row_made : Block → ℕ → State → Row
row_made x n s = record {
  off = x.offset;
  end = x.offset + x.size;
  size = x.size;
  mark = x.mark;
  kind = kind_named x.kind;
  index = index_of (kind_named x.kind) s;
  first_link = cond (eqb n 0) 0 (length s.links);
  link_count = n;
  record_size = x.layout.record_size;
  invalidation_bytes = x.layout.invalidation_bytes;
  record_id_len = x.layout.record_id_len;
  from_block = s.from_block;
  from_link = s.from_link;
}

-- x and the link targets ts are what the own bytes o of a block tell, with the record layout h handed down; and its content is
-- accepted
pub record Tells (h : RecordLayout) (o : List ℕ) (x : Block) (ts : List ℕ) : Type 0 where
  pub content : content_ok (kind_named x.kind) o ≡ ok tt
  pub size : x.size ≡ (shape (kind_named x.kind)).size o
  pub mark : x.mark ≡ mark_in (kind_named x.kind) o
  pub layout : layout_of x.layout ≡ records_in (kind_named x.kind) h o
  pub targets : ts ≡ (shape (kind_named x.kind)).targets o

-- a callback that may be called at each place below n, and answers the list ts there
abbrev pub CallableBelow : (ℕ → Type 0) → ℕ → Type 0
CallableBelow pre n = (i : ℕ) → i < n → pre i

pub record Gives (post : ℕ → ℕ → Type 0) (n : ℕ) (ts : List ℕ) : Type 0 where
  pub long : n ≡ length ts
  pub each : (i x : ℕ) → i < n → post i x → x ≡ get_or ts i 0
