-- The kinds of block as one table, and reading a block. What a block says is a function of its own bytes alone, so that two
-- recordings that agree on them give one reading.
use Rattle.std.specs.Prelude.{Bool, true, false, cond, not, ◌||◌, ◌&&◌, List, [], ◌∷◌, ◌++◌, map, ℕ, ◌+◌, ◌-◌, ◌*◌, ◌/◌, ◌%◌, ◌^◌, min, max, leb, ltb, eqb, length, get_or, take}
use Prim.Native.String.{String}
use Rattle.fmt.specs.Text.{ascii}
use Rattle.mdf4.specs.Bytes.{bytes, little, num, words}
use Rattle.mdf4.specs.Act.{refusal, Out, ok, and_then, check, Kind, ID, HD, DG, CG, CN, SI, TX, MD, DT, SD, DL, UT, UD, Link}

-- a mark: four bytes as a little-endian number
abbrev pub mark_of : String → ℕ
mark_of s = little (ascii s)

-- the header's fields, of its 24 bytes
unfoldable pub block_len : List ℕ → ℕ
block_len h = num h 8 8

unfoldable pub links_nr : List ℕ → ℕ
links_nr h = num h 16 8

-- where the data begin: behind the links
unfoldable pub data_at : List ℕ → ℕ
data_at h = 24 + 8 * links_nr h

-- a channel group's seventh link counts if bit 3 of the flags is set
unfoldable pub master_cg_addr : List ℕ → ℕ
master_cg_addr o = cond (eqb (num o (data_at o + 16) 2 / 8 % 2) 1) (num o 72 8) 0

-- What is known of a kind. h is a header, o the block's own bytes: all that is read of it.
pub record Shape : Type 0 where
  -- document 01's number, and the mark; 0 for kinds met by any mark
  pub number : ℕ
  pub mark : ℕ
  -- whether another mark is refused (5)
  pub tested : Bool
  -- the bytes that must be there before the header is looked at, and the bytes read as the header tells them
  pub min_len : ℕ
  pub need : List ℕ → ℕ
  pub size : List ℕ → ℕ
  -- the links shown, and their printed names
  pub targets : List ℕ → List ℕ
  pub names : List (List ℕ)

abbrev kind : ℕ → String → Bool → ℕ → (List ℕ → ℕ) → (List ℕ → ℕ) → (List ℕ → List ℕ) → List String → Shape
kind n m t len need size targets names =
    record { number = n; mark = mark_of m; tested = t; min_len = len; need = need; size = size; targets = targets; names = map ascii names }

-- number, mark, tested, min_len, need, size, targets, names
unfoldable pub shape : Kind → Shape
shape ID = kind 1 "##ID" false 64 (λ h. 64) (λ o. 64) (λ o. []) []
shape HD = kind 2 "##HD" true 104 (λ h. 104) (λ o. 104) (λ o. words o 24 6)
    ("first_dg_addr" ∷ "file_history_addr" ∷ "channel_tree_addr" ∷ "first_attachment_addr" ∷ "first_event_addr" ∷ "comment_addr" ∷ [])
shape DG = kind 3 "##DG" true 64 (λ h. 64) block_len (λ o. words o 24 4) ("next_dg_addr" ∷ "first_cg_addr" ∷ "data_block_addr" ∷ "comment_addr" ∷ [])
shape CG = kind 4 "##CG" true 104 (λ h. data_at h + 32) block_len (λ o. words o 24 6 ++ cond (leb 7 (links_nr o)) (master_cg_addr o ∷ []) [])
    ("next_cg_addr" ∷ "first_ch_addr" ∷ "acq_name_addr" ∷ "acq_source_addr" ∷ "first_sample_reduction_addr" ∷ "comment_addr" ∷ "master_cg_addr" ∷ [])
shape CN = kind 5 "##CN" true 160 (λ h. 160) block_len (λ o. words o 24 8)
    ("next_ch_addr" ∷ "component_addr" ∷ "name_addr" ∷ "source_addr" ∷ "conversion_addr" ∷ "data" ∷ "unit_addr" ∷ "comment_addr" ∷ [])
shape SI = kind 6 "##SI" true 24 (λ h. data_at h + 3) block_len (λ o. take 3 (words o 24 (min 3 (links_nr o)) ++ 0 ∷ 0 ∷ 0 ∷ []))
    ("name_addr" ∷ "path_addr" ∷ "comment_addr" ∷ [])
shape TX = kind 7 "##TX" false 24 (λ h. max 24 (block_len h)) block_len (λ o. []) []
shape MD = kind 8 "##MD" false 24 (λ h. max 24 (block_len h)) block_len (λ o. []) []
shape DT = kind 9 "##DT" false 24 (λ h. 24) block_len (λ o. []) []
shape SD = kind 10 "##SD" false 24 (λ h. 24) block_len (λ o. []) []
shape DL = kind 11 "##DL" false 24 (λ h. data_at h + 8) block_len (λ o. words o 24 (links_nr o)) ("next" ∷ [])
shape UT = kind 12 "" false 24 (λ h. 24) block_len (λ o. []) []
shape UD = kind 13 "" false 24 (λ h. 24) block_len (λ o. []) []

unfoldable pub is : Kind → Kind → Bool
is k j = eqb (shape k).number (shape j).number

-- whether the header's numbers are accepted, else refusal 6
unfoldable pub header_ok : Kind → List ℕ → Bool
header_ok k h = cond (is k CG) (leb 6 (links_nr h) && leb (data_at h + 32) (block_len h)) (cond (is k DL) (leb 1 (links_nr h)) true)

-- what the bytes w that the header tells ask for beyond them: a data list's equal length, or an offset for each fragment
unfoldable pub rest : Kind → List ℕ → ℕ
rest k w = cond (is k DL) (cond (eqb (num w (data_at w) 1 % 2) 1) 8 (8 * num w (data_at w + 4) 4)) 0

-- the largest u64
abbrev pub u64_max : ℕ
u64_max = 2 ^ 64 - 1

-- document 01's read bytes of a block: how many, from its offset on
unfoldable pub read_len : Kind → List ℕ → ℕ → ℕ
read_len k r a = let n = (shape k).need (bytes r a 24) in n + rest k (bytes r a n)

-- the block's own bytes o, or refusal 1, 5 or 6. All that depends on the recording is its length, the header h, the bytes w
-- that the header asks for, and o.
unfoldable pub read_of : Kind → ℕ → ℕ → List ℕ → List ℕ → List ℕ → Out (List ℕ)
read_of k len a h w o =
    and_then (check (leb (a + (shape k).min_len) len) (refusal 1 a (min (a + (shape k).min_len) u64_max) len)) (λ u.
    and_then (check (not (shape k).tested || eqb (num h 0 4) (shape k).mark) (refusal 5 a (shape k).mark (num h 0 4))) (λ u.
    and_then (check (header_ok k h) (refusal 6 a (links_nr h) (block_len h))) (λ u.
    and_then (check (leb ((shape k).need h) (len - a)) (refusal 1 a (min ((shape k).need h) u64_max) (len - a))) (λ u.
    and_then (check (leb ((shape k).need h + rest k w) (len - a)) (refusal 1 a (min ((shape k).need h + rest k w) u64_max) (len - a))) (λ u.
    ok o)))))

unfoldable pub read_block : Kind → List ℕ → ℕ → Out (List ℕ)
read_block k r a = read_of k (length r) a (bytes r a 24) (bytes r a ((shape k).need (bytes r a 24))) (bytes r a (read_len k r a))

-- the mark of the row
unfoldable pub mark_in : Kind → List ℕ → ℕ
mark_in k o = cond (is k ID) (shape ID).mark (num o 0 4)

-- the record layout: what a channel group says of its records, as a data group hands it down to its data blocks
pub record RecordLayout : Type 0 where
  pub record_size : ℕ
  pub invalidation_bytes : ℕ
  pub record_id_len : ℕ

abbrev pub no_records : ℕ → RecordLayout
no_records id_len = record { record_size = 0; invalidation_bytes = 0; record_id_len = id_len }

unfoldable pub cg_records : ℕ → List ℕ → RecordLayout
cg_records id_len o = record {
  record_size = id_len + num o (data_at o + 24) 4 + num o (data_at o + 28) 4;
  invalidation_bytes = num o (data_at o + 28) 4;
  record_id_len = id_len;
}

-- the three words of the row, of what was handed down
unfoldable pub records_in : Kind → RecordLayout → List ℕ → RecordLayout
records_in k h o = cond (is k CG) (cg_records h.record_id_len o) (cond (is k DT) h (no_records 0))

-- a link of a block: its target, and the mark found there if its four bytes lie inside the file
unfoldable pub make_link : List ℕ → ℕ → Link
make_link r t = record { target = t; found = cond (not (eqb t 0) && leb (t + 4) (length r)) (1 + num r t 4) 0 }

abbrev pub null : Link
null = record { target = 0; found = 0 }

-- whether a link leads to a mark
unfoldable pub leads_to : ℕ → Link → Bool
leads_to m l = eqb l.found (1 + m)

-- A channel's name, the third of its links: read where it leads to ##TX with 24 bytes inside the file.
unfoldable pub name_link : List Link → Link
name_link ls = get_or ls 2 null

unfoldable pub name_is_text : ℕ → Link → Bool
name_is_text len l = leads_to (shape TX).mark l && leb (l.target + 24) len

-- its header
unfoldable pub name_head : List ℕ → Link → List ℕ
name_head r l = cond (name_is_text (length r) l) (bytes r l.target 24) []

-- refusal 7, of the link and the header h at its target. A block_len under 24 is not refused (document 02, order 2): such a name is
-- empty.
unfoldable pub name_check : ℕ → Link → List ℕ → Out (Unit {0})
name_check len l h =
    and_then (check (eqb l.target 0 || ltb (l.target + 24) (2 ^ 64)) (refusal 7 l.target l.target 24)) (λ u.
    cond (name_is_text len l) (check (ltb (l.target + block_len h) (2 ^ 64)) (refusal 7 l.target l.target (block_len h))) (ok tt))

unfoldable pub name_ok : Kind → List ℕ → List Link → Out (Unit {0})
name_ok k r ls = cond (is k CN) (name_check (length r) (name_link ls) (name_head r (name_link ls))) (ok tt)

-- document 01's read bytes of a name: the larger of 24 and block_len if that fits the file, else 24
unfoldable pub name_len : ℕ → Link → List ℕ → ℕ
name_len len l h = cond (leb (l.target + max 24 (block_len h)) len) (max 24 (block_len h)) 24
