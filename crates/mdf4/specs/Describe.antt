-- What the listing and the tree say of a block: its description and the line below it, of its row, its own bytes and, for a
-- channel, the bytes of its name.
use Rattle.std.specs.Prelude.{Bool, true, false, cond, ◌&&◌, List, [], ◌∷◌, ◌++◌, map, ℕ, ◌+◌, ◌-◌, ◌/◌, ◌%◌, min, leb, ltb, eqb, length, get_or, take, drop, replicate}
use Rattle.utf8.specs.Utf8.{chunks, shown_all, lossy, char_count}
use Rattle.utf8.specs.White.{trim, trim_end}
use Rattle.utf8.specs.Nul.{trim_nuls, before_nul}
use Rattle.fmt.specs.Text.{ascii}
use Rattle.fmt.specs.Digits.{dec_signed, i16_of}
use Rattle.fmt.specs.Format.{format}
use Rattle.fmt.specs.Preview.{preview, unlined}
use Rattle.mdf4.specs.Bytes.{bytes, num}
use Rattle.mdf4.specs.Act.{Kind, ID, HD, DG, CG, CN, SI, TX, MD, DT, SD, DL, UT, UD, Row, Link}
use Rattle.mdf4.specs.Kinds.{shape, is, read_len, block_len, data_at, name_link, name_is_text, name_len, name_head, u64_max}
use Rattle.mdf4.specs.Reads.{links_at}

-- the data types' names for `{:?}`; from 17 on the type is unknown
unfoldable pub data_type_names : List (List ℕ)
data_type_names = map ascii
    ("UnsignedIntegerLE" ∷ "UnsignedIntegerBE" ∷ "SignedIntegerLE" ∷ "SignedIntegerBE" ∷ "FloatLE" ∷ "FloatBE" ∷ "StringLatin1" ∷ "StringUtf8"
    ∷ "StringUtf16LE" ∷ "StringUtf16BE" ∷ "ByteArray" ∷ "MimeSample" ∷ "MimeStream" ∷ "CanOpenDate" ∷ "CanOpenTime" ∷ "ComplexLE" ∷ "ComplexBE"
    ∷ "Unknown(())" ∷ [])

unfoldable pub data_type_name : ℕ → List ℕ
data_type_name t = get_or data_type_names (min t 17) []

-- a channel's name (`read_text_at`): the bytes that are read of it, and the text in them, NULs off both ends; none where the
-- block passes the file's end, or where its block_len is under 24 (document 02, order 2)
unfoldable pub name_bytes : List ℕ → Link → List ℕ
name_bytes r l = cond (name_is_text (length r) l) (bytes r l.target (name_len (length r) l (name_head r l))) []

unfoldable pub name_text : List ℕ → List ℕ
name_text n = cond (leb (block_len n) (length n)) (lossy (trim_nuls (drop 24 (take (block_len n) n)))) []

-- the bytes of a text behind its header: a text block's up to the first NUL, metadata without the NULs at both ends
unfoldable pub tx_text : List ℕ → List ℕ
tx_text o = before_nul (drop 24 o)

unfoldable pub md_text : List ℕ → List ℕ
md_text o = trim_nuls (drop 24 o)

-- a data block's payload
unfoldable pub payload : Row → ℕ
payload w = w.size - 24

-- a data list's fragment length, where they are all equal
unfoldable pub equal_length : List ℕ → List ℕ
equal_length o = cond (eqb (num o (data_at o) 1 % 2) 1) (format (ascii ", equal_length=%B") (num o (data_at o + 8) 8 ∷ [])) []

-- the description, of the kind, the row, the block's own bytes o and the name's bytes n
unfoldable pub describe_of : Kind → Row → List ℕ → List ℕ → List ℕ
describe_of ID w o n =
    ascii "Identification: version='" ++ shown_all (trim (chunks (bytes o 8 8)))
    ++ ascii "', program='" ++ shown_all (trim_end (chunks (bytes o 16 8))) ++ ascii "'"
describe_of HD w o n = format (ascii "Header Block (abs_time=% ns, tz=") (num o 72 8 ∷ []) ++ dec_signed (i16_of (num o 80 2)) ++ ascii " min)"
describe_of DG w o n = format (ascii "Data Group #% (record_id_len=%)") (w.index ∷ num o 56 1 ∷ [])
describe_of CG w o n =
    format (ascii "Channel Group #% (cycles=%, record=%B = %B data + %B inval + %B record_id)")
    (w.index ∷ num o (data_at o + 8) 8 ∷ w.record_size ∷ num o (data_at o + 24) 4 ∷ w.invalidation_bytes ∷ w.record_id_len ∷ [])
describe_of CN w o n =
    format (ascii "Channel #% '") (w.index ∷ []) ++ name_text n ++ format (ascii "' (ch_type=%, sync=%, dtype=") (num o 88 1 ∷ num o 89 1 ∷ [])
    ++ data_type_name (num o 90 1) ++ format (ascii ", %b @ byte=% bit=%)") (num o 96 4 ∷ num o 92 4 ∷ num o 91 1 ∷ [])
describe_of SI w o n =
    format (ascii "Source (type=%, bus_type=%, flags=0x&)") (num o (data_at o) 1 ∷ num o (data_at o + 1) 1 ∷ num o (data_at o + 2) 1 ∷ [])
describe_of TX w o n = ascii "Text: \"" ++ preview 48 (chunks (tx_text o)) ++ format (ascii "\" (% chars)") (char_count (tx_text o) ∷ [])
describe_of MD w o n =
    format (ascii "Metadata (XML, % chars): ") (min (length (lossy (md_text o))) u64_max ∷ []) ++ preview 48 (map unlined (chunks (md_text o)))
describe_of DT w o n = format (ascii "Data block (% payload bytes)") (payload w ∷ [])
describe_of SD w o n = format (ascii "Signal data (VLSD stream, % payload bytes)") (payload w ∷ [])
describe_of DL w o n = format (ascii "Data List (% fragments") (num o (data_at o + 4) 4 ∷ []) ++ equal_length o ++ ascii ")"
describe_of UT w o n = ascii "Unknown block (not walked further)"
describe_of UD w o n = ascii "Unknown data block"

-- what is left of a payload after its records, if anything
unfoldable pub trailing_bytes : ℕ → List ℕ
trailing_bytes rest = cond (ltb 0 rest) (format (ascii ", trailing=%B") (rest ∷ [])) []

-- a data block's records, by whether their size is above 0
unfoldable pub records : Bool → Row → List ℕ
records false w = format (ascii "payload=% bytes (header=24 bytes)") (payload w ∷ [])
records true w =
    format (ascii "payload=% bytes, header=24 bytes, record layout = %B (record_id=%B + data + invalidation=%B), records=%")
    (payload w ∷ w.record_size ∷ w.record_id_len ∷ w.invalidation_bytes ∷ payload w / w.record_size ∷ [])
    ++ trailing_bytes (payload w % w.record_size)

-- the line below the row, indented by 44; most kinds have none
unfoldable pub indented : List ℕ → List ℕ
indented t = replicate 44 32 ++ t ++ ascii "\n"

unfoldable pub extra_of : Kind → Row → List ℕ → List ℕ
extra_of ID w o =
    indented (format (ascii "version_number=%, standard_unfinalized_flags=0x^, custom_unfinalized_flags=0x^") (num o 28 2 ∷ num o 60 2 ∷ num o 62 2 ∷ []))
extra_of HD w o = indented (format (ascii "flags=0x&, time_flags=0x&, time_quality=0x&") (num o 86 1 ∷ num o 84 1 ∷ num o 85 1 ∷ []))
extra_of DG w o = []
extra_of CG w o = indented (format (ascii "flags=0x^, record_id=%") (num o (data_at o + 16) 2 ∷ num o (data_at o) 8 ∷ []))
extra_of CN w o = indented (format (ascii "flags=0x~, pos_invalidation_bit=%, precision=%") (num o 100 4 ∷ num o 104 4 ∷ num o 108 1 ∷ []))
extra_of SI w o = []
extra_of TX w o = []
extra_of MD w o = []
extra_of DT w o = indented (records (ltb 0 w.record_size) w)
extra_of SD w o = []
extra_of DL w o = indented (format (ascii "flags=0x&") (num o (data_at o) 1 ∷ []))
extra_of UT w o = []
extra_of UD w o = []

-- of a recording and a row
unfoldable pub block_bytes : List ℕ → Row → List ℕ
block_bytes r w = bytes r w.off (read_len w.kind r w.off)

unfoldable pub row_name : List ℕ → Row → List ℕ
row_name r w = cond (is w.kind CN) (name_bytes r (name_link (links_at r w.kind w.off))) []

unfoldable pub describe : List ℕ → Row → List ℕ
describe r w = describe_of w.kind w (block_bytes r w) (row_name r w)

unfoldable pub extra_line : List ℕ → Row → List ℕ
extra_line r w = extra_of w.kind w (block_bytes r w)

-- the four bytes of a mark, and a mark as it is shown
unfoldable pub mark_bytes : ℕ → List ℕ
mark_bytes m = m % 256 ∷ m / 256 % 256 ∷ m / 65536 % 256 ∷ m / 16777216 % 256 ∷ []

unfoldable pub mark_text : ℕ → List ℕ
mark_text m = lossy (mark_bytes m)

-- filled to six characters, not bytes
unfoldable pub mark_column : ℕ → List ℕ
mark_column m = mark_text m ++ replicate (6 - char_count (mark_bytes m)) 32

-- the name of the link at place i of a block of kind k
unfoldable pub link_name : Kind → ℕ → List ℕ
link_name k i = cond (is k DL && ltb 0 i) (format (ascii "data_links[%]") ((i - 1) ∷ [])) (get_or (shape k).names i [])
