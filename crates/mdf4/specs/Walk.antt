-- The walk: the Rust's `impl Walker`, function by function. Texts, sources, data regions and data lists, then the chains of
-- channels, channel groups and data groups, the header and the identification.
use Rattle.std.specs.Prelude.{Bool, true, false, cond, ◌||◌, List, [], ◌∷◌, ◌++◌, map, ℕ, zero, suc, ◌+◌, ◌^◌, leb, ltb, eqb, length, get_or, drop}
use Rattle.mdf4.specs.Bytes.{bytes, num, bit}
use Rattle.mdf4.specs.Act.{refusal, Out, ok, and_then, check, Kind, ID, HD, DG, CG, CN, SI, TX, MD, DT, SD, DL, UT, UD}
use Rattle.mdf4.specs.Act.{Row, Link, State, Limits, Act, choose, pure, stop, raise, ◌>>=◌, ◌>>◌, sized, once, seen, chain, by_link, each_link}
use Rattle.mdf4.specs.Version.{version}
use Rattle.mdf4.specs.Kinds.{shape, mark_of, is, read_block, mark_in, RecordLayout, no_records, cg_records, records_in, make_link, null, leads_to, name_ok}

-- what the identification asks of its own bytes: refusals 2, 3, 4 and 7
unfoldable pub content_ok : Kind → List ℕ → Out (Unit {0})
content_ok k o =
    cond (is k ID)
    (and_then (check (eqb (num o 0 8) (mark_of "MDF     ")) (refusal 2 0 0 0)) (λ u. and_then (version (bytes o 8 8)) (λ number. ok tt)))
    (ok tt)

-- refusal 7 at the first target that passes u64 with its four bytes
unfoldable pub targets_ok : List ℕ → Out (Unit {0})
targets_ok [] = ok tt
targets_ok (t ∷ ts) = and_then (check (ltb (t + 4) (2 ^ 64)) (refusal 7 t t 4)) (λ u. targets_ok ts)

-- the index counts data groups, channel groups and channels, each from 0
unfoldable pub index_of : Kind → State → ℕ
index_of k s = cond (is k DG) s.dg_counter (cond (is k CG) s.cg_counter (cond (is k CN) s.cn_counter 0))

-- the row of a block, of its own bytes o and its links, reached by the link that is being followed; h is the record layout handed down
unfoldable pub row_of : Kind → ℕ → RecordLayout → State → List ℕ → List Link → Row
row_of k a h s o ls = record {
  off = a;
  end = a + (shape k).size o;
  size = (shape k).size o;
  mark = mark_in k o;
  kind = k;
  index = index_of k s;
  first_link = cond (eqb (length ls) 0) 0 (length s.links);
  link_count = length ls;
  record_size = (records_in k h o).record_size;
  invalidation_bytes = (records_in k h o).invalidation_bytes;
  record_id_len = (records_in k h o).record_id_len;
  from_block = s.from_block;
  from_link = s.from_link;
}

unfoldable pub push : Kind → Row → List Link → State → State
push k w ls s = record {
  visited = s.visited;
  rows = s.rows ++ w ∷ [];
  links = s.links ++ ls;
  dg_counter = s.dg_counter + bit (is k DG);
  cg_counter = s.cg_counter + bit (is k CG);
  cn_counter = s.cn_counter + bit (is k CN);
  from_block = s.from_block;
  from_link = s.from_link;
  lent = s.lent;
}

-- A block's own bytes and its links.
abbrev pub Block : Type 0
Block = List ℕ × List Link

-- what is left once a block's own bytes, its links and its name are there: refusals 2 to 4 and 7, then 11, 12 and the row
unfoldable pub after_reading : Kind → ℕ → RecordLayout → State → List ℕ → List Link → Out (Unit {0}) → Out (Block × State)
after_reading k a h s o ls name =
    and_then (content_ok k o) (λ u.
    and_then name (λ u.
    and_then (targets_ok ((shape k).targets o)) (λ u.
    and_then (check (ltb (a + (shape k).size o) (2 ^ 64)) (refusal 7 a a ((shape k).size o))) (λ u.
    and_then (check (ltb (length s.rows) s.lent.blocks) (refusal 11 a s.lent.blocks 0)) (λ u.
    and_then (check (leb (length s.links + length ls) s.lent.links) (refusal 12 a s.lent.links 0)) (λ u.
    ok ((o, ls), push k (row_of k a h s o ls) ls s)))))))

-- reads the block at a and lists it
unfoldable pub list_block : Kind → ℕ → RecordLayout → List ℕ → State → Out (Block × State)
list_block k a h r s =
    and_then (read_block k r a) (λ o. after_reading k a h s o (map (make_link r) ((shape k).targets o)) (name_ok k r (map (make_link r) ((shape k).targets o))))

unfoldable pub enter : Kind → ℕ → RecordLayout → Act Block
enter k a h r s = raise k a s (list_block k a h r s)

-- a block's n-th shown link, and its address
unfoldable pub link_of : Block → ℕ → Link
link_of b n = get_or b.1 n null

unfoldable pub addr : Block → ℕ → ℕ
addr b n = (link_of b n).target

-- the step f follows the n-th link of the block b at the offset a: it is given the address, or the link itself
abbrev pub follow : {A : Type 0} → ℕ → Block → ℕ → (ℕ → Act A) → Act A
follow a b n f = by_link a n (f (addr b n))

abbrev pub follow_link : {A : Type 0} → ℕ → Block → ℕ → (Link → Act A) → Act A
follow_link a b n f = by_link a n (f (link_of b n))

-- texts: the kind is told by the mark
unfoldable pub text_kind : List ℕ → Kind
text_kind h = cond (eqb (num h 0 4) (shape TX).mark) TX (cond (eqb (num h 0 4) (shape MD).mark) MD UT)

unfoldable pub enter_text : ℕ → Act (Unit {0})
enter_text a r s = and_then (enter (text_kind (bytes r a 24)) a (no_records 0) r s) (λ p. ok (tt, p.1))

-- with fewer than 24 bytes left a text is visited and not listed
unfoldable pub walk_text_like : ℕ → Act (Unit {0})
walk_text_like a = choose (eqb a 0) (pure tt) (once UT a tt (sized λ n.
    choose (ltb (a + 24) (2 ^ 64)) (choose (leb (a + 24) n) (enter_text a) (pure tt)) (stop UT a (refusal 7 a a 24))))

-- name, path and comment
unfoldable pub walk_source : ℕ → Act (Unit {0})
walk_source a = choose (eqb a 0) (pure tt) (once SI a tt (enter SI a (no_records 0) >>= λ b.
    follow a b 0 walk_text_like >> follow a b 1 walk_text_like >> follow a b 2 walk_text_like))

-- a conversion is not walked: refusal 9 where it was not visited; cn is the channel's offset
unfoldable pub walk_conversion : ℕ → ℕ → Act (Unit {0})
walk_conversion cn a = seen a λ b. choose (eqb a 0 || b) (pure tt) (stop CN cn (refusal 9 a cn 0))

-- DT, DV, RD and RV are listed alike
unfoldable pub leads_to_data : Link → Bool
leads_to_data l = leads_to (mark_of "##DT") l || leads_to (mark_of "##DV") l || leads_to (mark_of "##RD") l || leads_to (mark_of "##RV") l

-- `record_simple_data_block` and `record_signal_data_block`
unfoldable pub record_data_block : Kind → ℕ → RecordLayout → Act (Unit {0})
record_data_block k a h = once k a tt (enter k a h >> pure tt)

-- with fewer than 24 bytes left an unknown block is visited and not listed
unfoldable pub record_unknown_block : ℕ → Act (Unit {0})
record_unknown_block a = once UD a tt (sized λ n. choose (leb (a + 24) n) (enter UD a (no_records 0) >> pure tt) (pure tt))

-- a data region that is no data list, by the mark found; with no mark there is nothing to walk
unfoldable pub walk_data_block : RecordLayout → Link → Act (Unit {0})
walk_data_block h l =
    choose (eqb l.found 0) (pure tt)
    (choose (leads_to_data l) (record_data_block DT l.target h)
    (choose (leads_to (shape SD).mark l) (record_data_block SD l.target (no_records 0))
    (record_unknown_block l.target)))

-- the data links first, then next; `region` walks one of them
unfoldable pub walk_data_list : (Link → Act (Unit {0})) → ℕ → Act (Unit {0})
walk_data_list region a = once DL a tt (enter DL a (no_records 0) >>= λ b. each_link a 1 region (drop 1 b.1) >> follow_link a b 0 region)

-- how many lists may be entered and not left
abbrev pub max_lists : ℕ
max_lists = 512

-- refusal 15 at one list too many; a visited one is not entered
unfoldable pub list_too_deep : ℕ → Act (Unit {0})
list_too_deep a = seen a λ b. choose b (pure tt) (stop DL a (refusal 15 a max_lists 0))

-- `depth` lists may still be entered
unfoldable pub walk_data_region : ℕ → RecordLayout → Link → Act (Unit {0})
walk_data_region zero h l = choose (leads_to (shape DL).mark l) (list_too_deep l.target) (walk_data_block h l)
walk_data_region (suc depth) h l = choose (leads_to (shape DL).mark l) (walk_data_list (walk_data_region depth h) l.target) (walk_data_block h l)

-- name, source, conversion, unit, comment; a channel of type 1 (variable length signal data) has data of its own
unfoldable pub walk_channel : ℕ → Unit {0} → Act (ℕ × Unit {0})
walk_channel a u = once CN a (0, tt) (enter CN a (no_records 0) >>= λ b.
    follow a b 2 walk_text_like >> follow a b 3 walk_source >> walk_conversion a (addr b 4) >> follow a b 6 walk_text_like >> follow a b 7 walk_text_like
    >> by_link a 5 (choose (eqb (num b.0 88 1) 1) (walk_data_region max_lists (no_records 0) (link_of b 5)) (pure tt))
    >> follow a b 0 (λ next. pure (next, tt)))

-- a data group hands down its first channel group's record layout: whether a group came before, and what is handed down
abbrev pub Handed : Type 0
Handed = Bool × RecordLayout

unfoldable pub hand_down : RecordLayout → Handed → Handed
hand_down h got = (true, cond got.0 got.1 h)

-- acquisition name, source, comment, channels; `fuel` bounds the steps of a chain
unfoldable pub walk_channel_group : ℕ → ℕ → ℕ → Handed → Act (ℕ × Handed)
walk_channel_group fuel id_len a got = once CG a (0, hand_down (no_records id_len) got) (enter CG a (no_records id_len) >>= λ b.
    follow a b 2 walk_text_like >> follow a b 3 walk_source >> follow a b 5 walk_text_like
    >> follow a b 1 (λ first. chain fuel walk_channel first tt)
    >> follow a b 0 (λ next. pure (next, hand_down (cg_records id_len b.0) got)))

-- comment, channel groups, data
unfoldable pub walk_data_group : ℕ → ℕ → Unit {0} → Act (ℕ × Unit {0})
walk_data_group fuel a u = once DG a (0, tt) (enter DG a (no_records 0) >>= λ b.
    follow a b 3 walk_text_like
    >> follow a b 1 (λ first. chain fuel (walk_channel_group fuel (num b.0 56 1)) first (false, no_records (num b.0 56 1)))
    >>= λ got. follow_link a b 2 (walk_data_region max_lists got.1)
    >> follow a b 0 (λ next. pure (next, tt)))

-- the header stands behind the identification
abbrev pub header_at : ℕ
header_at = 64

-- comment, data groups
unfoldable pub walk_from_header : ℕ → Block → Act (Unit {0})
walk_from_header fuel b = follow header_at b 5 walk_text_like >> follow header_at b 0 (λ first. chain fuel (walk_data_group fuel) first tt)

unfoldable pub walk_header : ℕ → Act (Unit {0})
walk_header fuel = once HD header_at tt (enter HD header_at (no_records 0) >>= walk_from_header fuel)

unfoldable pub walk_identification : Act (Unit {0})
walk_identification = once ID 0 tt (enter ID 0 (no_records 0) >> pure tt)

unfoldable pub start : Limits → State
start lim = record { visited = []; rows = []; links = []; dg_counter = 0; cg_counter = 0; cn_counter = 0; from_block = 0; from_link = 0; lent = lim }

-- no chain visits more blocks than the visited table takes, so the bound cuts none short (proofs/Fuel.antt)
unfoldable pub walk : Act (Unit {0})
walk r s = (walk_identification >> walk_header s.lent.visited) r s
