-- Further rows, proved by computation: document 01's rows worked by hand that have no star (WorkedRows.antt has the starred ones),
-- limits, one row for each of its wrong turns that no starred row rules out, rows of document 02's orders, and rows where document 01
-- is silent and the Rust decides.
use mathlib.Core.Path.{◌≡◌, refl}
use mathlib.Core.List.{List, [], ◌∷◌, ◌++◌}
use Prim.Native.Nat.{ℕ, ◌-◌, ◌^◌}
use lib.ListN.{replicate, drop}
use Rattle.fmt.specs.Text.{ascii}
use Rattle.mdf4.specs.Bytes.{concat_map}
use Rattle.mdf4.specs.Act.{ok, err, refusal, stopped, marked, DL, Row}
use Rattle.mdf4.specs.Kinds.{make_link, no_records, cg_records}
use Rattle.mdf4.specs.Version.{version}
use Rattle.mdf4.specs.Walk.{start, walk_data_region}
use Rattle.mdf4.specs.Layout.{Layout}
use Rattle.mdf4.specs.Clear.{le_bytes}
use Rattle.mdf4.specs.Describe.{name_text}
use Rattle.mdf4.specs.Tree.{Edge, render_tree_node}
use Rattle.mdf4.specs.Answers.{layout_exit, to_text_exit, to_tree_exit, path_exit, clear_list_exit, blank_exit, preview_exit, blank_recording}
use Rattle.mdf4.specs.Demand3.{Origin, origins_of}
use Rattle.mdf4.proofs.Computed.{computed}
use Rattle.mdf4.proofs.Recordings.{lent, counts, block, identification, header, L}
use Rattle.mdf4.proofs.WorkedRows.{L_rows}

-- 63 bytes, and a valid identification alone
pub short_identification : (layout_exit (lent 2 28 12 0 0 0) (replicate 63 0)).answer ≡ err (refusal 1 0 64 63)
unfolding computed
short_identification = refl

pub only_identification : (layout_exit (lent 2 28 12 0 0 0) identification).answer ≡ err (refusal 1 64 168 64)
unfolding computed identification
only_identification = refl

-- limits, one word or byte too few: what is refused leaves zeros in all that was lent
pub L_visited : (layout_exit (lent 1 28 12 0 0 0) L).answer ≡ err (refusal 10 64 1 0)
unfolding computed identification header L
L_visited = refl

pub L_blocks : (layout_exit (lent 2 27 12 0 0 0) L).answer ≡ err (refusal 11 64 1 0)
unfolding computed identification header L
L_blocks = refl

pub L_links : (layout_exit (lent 2 28 11 0 0 0) L).answer ≡ err (refusal 12 64 5 0)
unfolding computed identification header L
L_links = refl

pub L_scratch : (clear_list_exit (lent 2 28 12 0 3 24) L).answer ≡ err (refusal 13 0 1 2)
unfolding computed identification header L
L_scratch = refl

pub L_output : to_text_exit (lent 2 28 12 0 0 995) L
    ≡ record { answer = err (refusal 14 0 995 996); visited = replicate 2 0; blocks = replicate 28 0; links = replicate 12 0; gaps = []; scratch = []; out = replicate 995 0 }
unfolding computed identification header L
L_output = refl

-- a channel group's data stand behind its links, 7 here, and not at byte 72: 4 bytes of data, 1 of invalidation, 2 of record id
pub cg_7_links : cg_records 2 (block (ascii "##CG") 112 7 (replicate 56 0 ++ replicate 24 0 ++ 4 ∷ 0 ∷ 0 ∷ 0 ∷ 1 ∷ 0 ∷ 0 ∷ 0 ∷ []))
    ≡ record { record_size = 7; invalidation_bytes = 1; record_id_len = 2 }
unfolding computed
cg_7_links = refl

-- a data list is walked by its links_nr, whatever its block_len says: a data group at 168 whose data is a list at 232 of length 24,
-- with next 0 and one data link, to a data block at 288
unfoldable pub list_of_24 : List ℕ
list_of_24 =
    identification ++ header (le_bytes 8 168 ++ replicate 40 0)
    ++ block (ascii "##DG") 64 4 (replicate 16 0 ++ le_bytes 8 232 ++ replicate 16 0)
    ++ block (ascii "##DL") 24 2 (replicate 8 0 ++ le_bytes 8 288 ++ 1 ∷ replicate 15 0)
    ++ block (ascii "##DT") 24 0 []

pub list_walked : (layout_exit (lent 5 70 24 2 0 0) list_of_24).visited ≡ 0 ∷ 64 ∷ 168 ∷ 232 ∷ 288 ∷ []
unfolding computed identification header list_of_24
list_walked = refl

-- a data group at 168 with one group at 232, which has one channel at 336, named by the block at 496
unfoldable pub one_channel : List ℕ → List ℕ
one_channel name =
    identification ++ header (le_bytes 8 168 ++ replicate 40 0)
    ++ block (ascii "##DG") 64 4 (replicate 8 0 ++ le_bytes 8 232 ++ replicate 24 0)
    ++ block (ascii "##CG") 104 6 (replicate 8 0 ++ le_bytes 8 336 ++ replicate 64 0)
    ++ block (ascii "##CN") 160 8 (replicate 16 0 ++ le_bytes 8 496 ++ replicate 112 0)
    ++ name

-- a channel name is read: the clear list asks a scratch row for each of 6 blocks and for the name, and two for each of 4 links
pub name_read : (clear_list_exit (lent 6 84 48 0 28 24) (one_channel (block (ascii "##TX") 29 0 (ascii "speed")))).answer ≡ err (refusal 13 0 14 15)
unfolding computed identification header one_channel
name_read = refl

-- Document 02, order 2: a name that is ##TX with a block_len under 24 is empty. The last of its 24 bytes is not 0, so that a name which
-- began before the 25th would show it.
unfoldable pub short_block : ℕ → List ℕ
short_block len = ascii "##TX" ++ replicate 4 0 ++ le_bytes 8 len ++ replicate 7 0 ++ ascii "A"

pub short_name_23 : name_text (short_block 23) ≡ []
unfolding computed short_block
short_name_23 = refl

pub short_name_0 : name_text (short_block 0) ≡ []
unfolding computed short_block
short_name_0 = refl

-- with such a name, the file's last 24 bytes
unfoldable pub short_name : ℕ → List ℕ
short_name len = one_channel (short_block len)

-- the channel is listed, and the text after it as any text: its end is its offset + block_len
pub short_name_rows : drop 56 (layout_exit (lent 6 84 48 2 0 0) (short_name 23)).blocks
    ≡ 336 ∷ 496 ∷ 160 ∷ 0x4e432323 ∷ 5 ∷ 0 ∷ 16 ∷ 8 ∷ 0 ∷ 0 ∷ 0 ∷ 0 ∷ 232 ∷ 1
    ∷ 496 ∷ 519 ∷ 23 ∷ 0x58542323 ∷ 7 ∷ 0 ∷ 0 ∷ 0 ∷ 0 ∷ 0 ∷ 0 ∷ 0 ∷ 336 ∷ 2 ∷ []
unfolding computed identification header one_channel short_block short_name
short_name_rows = refl

unfoldable pub short_name_lines : List ℕ
short_name_lines =
    ascii "##ID @ 0x0000000000 [Identification: version='4.10', program='console1']\n"
    ++ ascii "##HD @ 0x0000000040 [Header Block (abs_time=0 ns, tz=0 min)]\n"
    ++ ascii "`-- (first_dg_addr) ##DG @ 0x00000000a8 [Data Group #0 (record_id_len=0)]\n"
    ++ ascii "    `-- (first_cg_addr) ##CG @ 0x00000000e8 [Channel Group #0 (cycles=0, record=0B = 0B data + 0B inval + 0B record_id)]\n"
    ++ ascii "        `-- (first_ch_addr) ##CN @ 0x0000000150 [Channel #0 '' (ch_type=0, sync=0, dtype=UnsignedIntegerLE, 0b @ byte=0 bit=0)]\n"
    ++ ascii "            `-- (name_addr) ##TX @ 0x00000001f0 [Text: \"\" (0 chars)]\n"

pub short_name_tree : (to_tree_exit (lent 6 84 48 2 0 526) (short_name 23)).out ≡ short_name_lines
unfolding computed identification header one_channel short_block short_name short_name_lines
short_name_tree = refl

pub empty_name_tree : (to_tree_exit (lent 6 84 48 2 0 526) (short_name 0)).out ≡ short_name_lines
unfolding computed identification header one_channel short_block short_name short_name_lines
empty_name_tree = refl

-- 24 bytes of it are read: none of them is clear, though a gap holds all from its end on, and the name has its scratch row
pub short_name_gap : (layout_exit (lent 6 84 48 2 0 0) (short_name 0)).gaps ≡ 496 ∷ 520 ∷ []
unfolding computed identification header one_channel short_block short_name
short_name_gap = refl

pub short_name_kept : (clear_list_exit (lent 6 84 48 2 30 24) (short_name 0)).out ≡ ascii "CLR" ++ 1 ∷ 0 ∷ 0 ∷ 0 ∷ 0 ∷ 8 ∷ 2 ∷ replicate 14 0
unfolding computed identification header one_channel short_block short_name
short_name_kept = refl

pub short_name_read : (clear_list_exit (lent 6 84 48 2 28 24) (short_name 0)).answer ≡ err (refusal 13 0 14 15)
unfolding computed identification header one_channel short_block short_name
short_name_read = refl

-- refusal 7 of a name's block_len stays: the address 496 and 2^64 - 496
pub long_name_refused : (layout_exit (lent 6 84 48 2 0 0) (short_name (2 ^ 64 - 496))).answer ≡ err (refusal 7 496 496 (2 ^ 64 - 496))
unfolding computed identification header one_channel short_block short_name
long_name_refused = refl

-- Document 02, order 4: a clear list is refused where the u16 at 60 or the one at 62 is not 0. Here the header is the last block, and
-- one byte stands behind it: a gap, two scratch rows and 40 bytes of output are needed.
unfoldable pub flagged : List ℕ → List ℕ
flagged flags = ascii "MDF     4.10    console1" ++ replicate 4 0 ++ le_bytes 2 410 ++ replicate 30 0 ++ flags ++ header (replicate 48 0) ++ 7 ∷ []

pub flags_standard : clear_list_exit (lent 2 28 12 2 4 40) (flagged (1 ∷ 0 ∷ 0 ∷ 0 ∷ []))
    ≡ record { answer = err (refusal 16 60 1 0); visited = replicate 2 0; blocks = replicate 28 0; links = replicate 12 0; gaps = replicate 2 0; scratch = replicate 4 0; out = replicate 40 0 }
unfolding computed header flagged
flags_standard = refl

pub flags_custom : (clear_list_exit (lent 2 28 12 2 4 40) (flagged (0 ∷ 0 ∷ 1 ∷ 0 ∷ []))).answer ≡ err (refusal 16 60 0 1)
unfolding computed header flagged
flags_custom = refl

-- a is the first word, b the second, each with its high byte
pub flags_both : (clear_list_exit (lent 2 28 12 2 4 40) (flagged (5 ∷ 0x80 ∷ 0 ∷ 1 ∷ []))).answer ≡ err (refusal 16 60 0x8005 0x100)
unfolding computed header flagged
flags_both = refl

-- it comes before 13 of the gap table, 13 of the scratch table and 14
pub flags_no_gaps : (clear_list_exit (lent 2 28 12 0 0 0) (flagged (0 ∷ 0 ∷ 0 ∷ 1 ∷ []))).answer ≡ err (refusal 16 60 0 0x100)
unfolding computed header flagged
flags_no_gaps = refl

pub no_flags_no_gaps : (clear_list_exit (lent 2 28 12 0 0 0) (flagged (replicate 4 0))).answer ≡ err (refusal 13 0 0 1)
unfolding computed header flagged
no_flags_no_gaps = refl

-- and after the walk
pub flags_walk : (clear_list_exit (lent 1 28 12 2 4 40) (flagged (1 ∷ 0 ∷ 1 ∷ 0 ∷ []))).answer ≡ err (refusal 10 64 1 0)
unfolding computed header flagged
flags_walk = refl

-- the others take such a recording
pub flags_layout : (layout_exit (lent 2 28 12 2 0 0) (flagged (5 ∷ 0x80 ∷ 0 ∷ 1 ∷ []))).answer ≡ ok (counts 2 2 6 1 0)
unfolding computed header flagged
flags_layout = refl

-- byte 59 is no flag
pub no_flags : (clear_list_exit (lent 2 28 12 2 4 40) (ascii "MDF     4.10    console1" ++ replicate 4 0 ++ le_bytes 2 410 ++ replicate 29 0 ++ 7 ∷ replicate 4 0 ++ header (replicate 48 0) ++ 7 ∷ [])).answer ≡ ok (counts 2 2 6 1 40)
unfolding computed header
no_flags = refl

-- Where document 01 is silent, the Rust decides (docs/DECISIONS.md): a version loses trailing NULs first, then White_Space
pub version_nul_space : version (ascii "4.10" ++ 0 ∷ 32 ∷ 32 ∷ 32 ∷ []) ≡ err (refusal 3 8 3 0)
unfolding computed
version_nul_space = refl

pub version_space_nul : version (ascii "4.10" ++ 32 ∷ 32 ∷ 32 ∷ 0 ∷ []) ≡ ok 410
unfolding computed
version_space_nul = refl

-- a part above 65,535 is refusal 3, a product above it 7; a third part is ignored
pub version_65536 : version (ascii "65536   ") ≡ err (refusal 3 8 2 0)
unfolding computed
version_65536 = refl

pub version_656 : version (ascii "656     ") ≡ err (refusal 7 8 656 0)
unfolding computed
version_656 = refl

pub version_third_part : version (ascii "4.10.x  ") ≡ ok 410
unfolding computed
version_third_part = refl

pub version_bad_utf8 : version (ascii "4.10" ++ 0xc2 ∷ 0x20 ∷ 0x20 ∷ 0x20 ∷ []) ≡ err (refusal 3 8 1 0)
unfolding computed
version_bad_utf8 = refl

-- U+3000 and U+0085 are White_Space
pub version_wide_space : version (0xe3 ∷ 0x80 ∷ 0x80 ∷ ascii "5" ++ 0xc2 ∷ 0x85 ∷ 0x20 ∷ 0x09 ∷ []) ≡ ok 500
unfolding computed
version_wide_space = refl

-- the header's row has 104 bytes whatever its block_len and links_nr say
pub header_untested : (layout_exit (lent 2 28 12 0 0 0) (identification ++ block (ascii "##HD") 7 0 (replicate 80 0))).blocks ≡ L_rows 0
unfolding computed identification L_rows
header_untested = refl

-- an empty visited table is refused before the identification is read
pub no_visited : (layout_exit (lent 0 0 0 0 0 0) []).answer ≡ err (refusal 10 0 0 0)
unfolding computed
no_visited = refl

-- one data list too many is refused before it is marked, and stops as a data list; a visited one is not entered
pub list_too_many : walk_data_region 0 (no_records 0) (make_link list_of_24 232) list_of_24 (start (record { visited = 0; blocks = 0; links = 0 }))
    ≡ err (stopped (refusal 15 232 512 0) (start (record { visited = 0; blocks = 0; links = 0 })) DL 232)
unfolding computed identification header list_of_24
list_too_many = refl

pub list_visited : walk_data_region 0 (no_records 0) (make_link list_of_24 232) list_of_24 (marked 232 (start (record { visited = 1; blocks = 0; links = 0 })))
    ≡ ok (tt, marked 232 (start (record { visited = 1; blocks = 0; links = 0 })))
unfolding computed identification header list_of_24
list_visited = refl

-- a tree line with no level left is refused, at its block
pub level_too_many : (r : List ℕ) (y : Layout) (s : Edge) (w : Row) (v : List ℕ) → render_tree_node r y 0 s w v ≡ err (refusal 15 w.off 4096 0)
unfolding computed
level_too_many r y s w v = refl

-- bytes behind the last block are clear
pub L_tail : (clear_list_exit (lent 2 28 12 2 4 40) (L ++ 1 ∷ 2 ∷ 3 ∷ 4 ∷ [])).out
    ≡ ascii "CLR" ++ 1 ∷ 0 ∷ 0 ∷ 0 ∷ 0 ∷ 172 ∷ replicate 7 0 ++ 1 ∷ replicate 7 0 ++ 168 ∷ replicate 7 0 ++ 172 ∷ replicate 7 0
unfolding computed identification header L
L_tail = refl

-- Document 02, order 1: where a link leads to a mark that starts with ## and 24 bytes inside the file, these 24 are read and the extent
-- is kept, a scratch row each. Here the header's file history link leads to 168, behind the last block. The bytes of a clear list of a
-- file of len bytes, with n ranges:
abbrev clr : ℕ → ℕ → List ℕ → List ℕ
clr len n ends = ascii "CLR" ++ 1 ∷ 0 ∷ 0 ∷ 0 ∷ 0 ∷ len ∷ replicate 7 0 ++ n ∷ replicate 7 0 ++ concat_map (λ x. x ∷ replicate 7 0) ends

unfoldable pub with_history : List ℕ → List ℕ
with_history behind = identification ++ header (replicate 8 0 ++ le_bytes 8 168 ++ replicate 32 0) ++ behind

-- 56 bytes at 168 with the mark and the block_len given; no byte of it but those of its mark and its length is 0
unfoldable pub history : List ℕ → ℕ → List ℕ
history mark len = with_history (mark ++ replicate 4 7 ++ le_bytes 8 len ++ replicate 40 7)

pub history_56 : (clear_list_exit (lent 2 28 12 2 8 24) (history (ascii "##FH") 56)).out ≡ clr 224 0 []
unfolding computed identification header with_history history
history_56 = refl

pub history_scratch : (clear_list_exit (lent 2 28 12 2 7 24) (history (ascii "##FH") 56)).answer ≡ err (refusal 13 0 3 4)
unfolding computed identification header with_history history
history_scratch = refl

-- what stands behind its extent is clear
pub history_32 : (clear_list_exit (lent 2 28 12 2 8 40) (history (ascii "##FH") 32)).out ≡ clr 224 1 (200 ∷ 224 ∷ [])
unfolding computed identification header with_history history
history_32 = refl

-- an extent of 24 bytes, one shorter than the header, and an empty one, which takes its row
pub history_24 : (clear_list_exit (lent 2 28 12 2 8 40) (history (ascii "##FH") 24)).out ≡ clr 224 1 (192 ∷ 224 ∷ [])
unfolding computed identification header with_history history
history_24 = refl

pub history_23 : (clear_list_exit (lent 2 28 12 2 8 40) (history (ascii "##FH") 23)).out ≡ clr 224 1 (192 ∷ 224 ∷ [])
unfolding computed identification header with_history history
history_23 = refl

pub history_0 : (clear_list_exit (lent 2 28 12 2 8 40) (history (ascii "##FH") 0)).out ≡ clr 224 1 (192 ∷ 224 ∷ [])
unfolding computed identification header with_history history
history_0 = refl

pub history_0_scratch : (clear_list_exit (lent 2 28 12 2 7 40) (history (ascii "##FH") 0)).answer ≡ err (refusal 13 0 3 4)
unfolding computed identification header with_history history
history_0_scratch = refl

-- an extent that passes the file's end is cut there, also where target + block_len passes 2^64
pub history_57 : (clear_list_exit (lent 2 28 12 2 8 24) (history (ascii "##FH") 57)).out ≡ clr 224 0 []
unfolding computed identification header with_history history
history_57 = refl

pub history_past_u64 : (clear_list_exit (lent 2 28 12 2 8 24) (history (ascii "##FH") (2 ^ 64 - 168))).out ≡ clr 224 0 []
unfolding computed identification header with_history history
history_past_u64 = refl

-- with 23 bytes left the four bytes count, as they do for another mark, and take one row; with 3 left nothing does
pub history_23_left : (clear_list_exit (lent 2 28 12 2 6 40) (with_history (ascii "##FH" ++ replicate 19 7))).out ≡ clr 191 1 (172 ∷ 191 ∷ [])
unfolding computed identification header with_history
history_23_left = refl

pub history_3_left : (clear_list_exit (lent 2 28 12 2 4 40) (with_history (ascii "##F"))).out ≡ clr 171 1 (168 ∷ 171 ∷ [])
unfolding computed identification header with_history
history_3_left = refl

pub one_number_sign : (clear_list_exit (lent 2 28 12 2 6 40) (history (ascii "#-FH") 56)).out ≡ clr 224 1 (172 ∷ 224 ∷ [])
unfolding computed identification header with_history history
one_number_sign = refl

pub second_number_sign : (clear_list_exit (lent 2 28 12 2 6 40) (history (ascii "-#FH") 56)).out ≡ clr 224 1 (172 ∷ 224 ∷ [])
unfolding computed identification header with_history history
second_number_sign = refl

pub last_number_signs : (clear_list_exit (lent 2 28 12 2 6 40) (history (ascii "FH##") 56)).out ≡ clr 224 1 (172 ∷ 224 ∷ [])
unfolding computed identification header with_history history
last_number_signs = refl

-- a row for each link, not for each target: the history and the attachment link both lead to 168
pub two_links : (clear_list_exit (lent 2 28 12 2 11 24)
    (identification ++ header (replicate 8 0 ++ le_bytes 8 168 ++ replicate 8 0 ++ le_bytes 8 168 ++ replicate 16 0) ++ block (ascii "##FH") 24 0 [])).answer
    ≡ err (refusal 13 0 5 6)
unfolding computed identification header
two_links = refl

-- an empty block cuts the gap, and its header is read: a text at 200 with block_len 0
unfoldable pub empty_text : List ℕ
empty_text = identification ++ header (replicate 40 0 ++ le_bytes 8 200) ++ replicate 32 7 ++ block (ascii "##TX") 0 0 [] ++ replicate 36 7

pub empty_text_gaps : (layout_exit (lent 3 42 12 4 0 0) empty_text).gaps ≡ 168 ∷ 200 ∷ 200 ∷ 260 ∷ []
unfolding computed identification header empty_text
empty_text_gaps = refl

pub empty_text_clear : (clear_list_exit (lent 3 42 12 4 10 56) empty_text).out
    ≡ ascii "CLR" ++ 1 ∷ 0 ∷ 0 ∷ 0 ∷ 0 ∷ 4 ∷ 1 ∷ replicate 6 0 ++ 2 ∷ replicate 7 0
    ++ 168 ∷ replicate 7 0 ++ 200 ∷ replicate 7 0 ++ 224 ∷ replicate 7 0 ++ 4 ∷ 1 ∷ replicate 6 0
unfolding computed identification header empty_text
empty_text_clear = refl

-- extents that overlap: a text at 176 with block_len 48, inside which a data group at 200 begins
unfoldable pub overlapping : List ℕ
overlapping =
    identification ++ header (le_bytes 8 200 ++ replicate 32 0 ++ le_bytes 8 176) ++ replicate 8 7 ++ block (ascii "##TX") 48 0 []
    ++ block (ascii "##DG") 64 4 (replicate 40 0) ++ replicate 6 7

pub overlapping_clear : (clear_list_exit (lent 4 56 20 4 16 56) overlapping).out
    ≡ ascii "CLR" ++ 1 ∷ 0 ∷ 0 ∷ 0 ∷ 0 ∷ 14 ∷ 1 ∷ replicate 6 0 ++ 2 ∷ replicate 7 0
    ++ 168 ∷ replicate 7 0 ++ 176 ∷ replicate 7 0 ++ 8 ∷ 1 ∷ replicate 6 0 ++ 14 ∷ 1 ∷ replicate 6 0
unfolding computed identification header overlapping
overlapping_clear = refl

-- an extent that passes the end leaves nothing clear behind its start: data at 240 with block_len 1,000 in 270 bytes
unfoldable pub past_end : List ℕ
past_end =
    identification ++ header (le_bytes 8 168 ++ replicate 40 0) ++ block (ascii "##DG") 64 4 (replicate 16 0 ++ le_bytes 8 240 ++ replicate 16 0)
    ++ replicate 8 7 ++ block (ascii "##DT") 1000 0 [] ++ replicate 6 7

pub past_end_clear : (clear_list_exit (lent 4 56 20 2 16 40) past_end).out
    ≡ ascii "CLR" ++ 1 ∷ 0 ∷ 0 ∷ 0 ∷ 0 ∷ 14 ∷ 1 ∷ replicate 6 0 ++ 1 ∷ replicate 7 0 ++ 232 ∷ replicate 7 0 ++ 240 ∷ replicate 7 0
unfolding computed identification header past_end
past_end_clear = refl

-- Document 02, order 3: which link the walk followed to a row. The offset of each of n rows, and its last two words.
unfoldable pub followed : ℕ → List ℕ → List ℕ
followed n t = concat_map (λ (o : Origin). o.off ∷ o.from_block ∷ o.from_link ∷ []) (origins_of n t)

-- a data group at 168 and its next at 232, whose data is a list at 296 with the data links 360 and 384, and next 408
unfoldable pub fragments : List ℕ
fragments =
    identification ++ header (le_bytes 8 168 ++ replicate 40 0)
    ++ block (ascii "##DG") 64 4 (le_bytes 8 232 ++ replicate 32 0)
    ++ block (ascii "##DG") 64 4 (replicate 16 0 ++ le_bytes 8 296 ++ replicate 16 0)
    ++ block (ascii "##DL") 64 3 (le_bytes 8 408 ++ le_bytes 8 360 ++ le_bytes 8 384 ++ 1 ∷ replicate 15 0)
    ++ block (ascii "##DT") 24 0 [] ++ block (ascii "##DT") 24 0 [] ++ block (ascii "##DT") 24 0 []

pub fragments_followed : followed 8 (layout_exit (lent 8 112 34 0 0 0) fragments).blocks
    ≡ 0 ∷ 0 ∷ 0 ∷ 64 ∷ 0 ∷ 0 ∷ 168 ∷ 64 ∷ 0 ∷ 232 ∷ 168 ∷ 0 ∷ 296 ∷ 232 ∷ 2 ∷ 360 ∷ 296 ∷ 1 ∷ 384 ∷ 296 ∷ 2 ∷ 408 ∷ 296 ∷ 0 ∷ []
unfolding computed identification header fragments followed
fragments_followed = refl

-- the path table lent exactly, with more than enough, and short: the gap table's 13 comes first
pub fragment_path : (path_exit 384 (lent 8 112 34 0 0 5) fragments).out ≡ 64 ∷ 168 ∷ 232 ∷ 296 ∷ 384 ∷ []
unfolding computed identification header fragments
fragment_path = refl

pub next_path : (path_exit 408 (lent 8 112 34 0 0 7) fragments).out ≡ 64 ∷ 168 ∷ 232 ∷ 296 ∷ 408 ∷ 0 ∷ 0 ∷ []
unfolding computed identification header fragments
next_path = refl

pub path_short : path_exit 384 (lent 8 112 34 2 0 4) fragments
    ≡ record { answer = err (refusal 13 0 4 5); visited = replicate 8 0; blocks = replicate 112 0; links = replicate 34 0; gaps = replicate 2 0; scratch = []; out = replicate 4 0 }
unfolding computed identification header fragments
path_short = refl

pub path_behind_gaps : (path_exit 384 (lent 8 112 34 0 0 0) (fragments ++ 7 ∷ [])).answer ≡ err (refusal 13 0 0 1)
unfolding computed identification header fragments
path_behind_gaps = refl

-- two channels at 336 and 496 whose names are one text, at 656: the second channel was reached from the first, the text from there too
unfoldable pub two_channels : List ℕ
two_channels =
    identification ++ header (le_bytes 8 168 ++ replicate 40 0)
    ++ block (ascii "##DG") 64 4 (replicate 8 0 ++ le_bytes 8 232 ++ replicate 24 0)
    ++ block (ascii "##CG") 104 6 (replicate 8 0 ++ le_bytes 8 336 ++ replicate 64 0)
    ++ block (ascii "##CN") 160 8 (le_bytes 8 496 ++ replicate 8 0 ++ le_bytes 8 656 ++ replicate 112 0)
    ++ block (ascii "##CN") 160 8 (replicate 16 0 ++ le_bytes 8 656 ++ replicate 112 0)
    ++ block (ascii "##TX") 26 0 (ascii "az")

pub channels_followed : drop 6 (followed 7 (layout_exit (lent 7 98 64 0 0 0) two_channels).blocks)
    ≡ 168 ∷ 64 ∷ 0 ∷ 232 ∷ 168 ∷ 1 ∷ 336 ∷ 232 ∷ 1 ∷ 496 ∷ 336 ∷ 0 ∷ 656 ∷ 336 ∷ 2 ∷ []
unfolding computed identification header two_channels followed
channels_followed = refl

pub channel_path : (path_exit 496 (lent 7 98 64 0 0 5) two_channels).out ≡ 64 ∷ 168 ∷ 232 ∷ 336 ∷ 496 ∷ []
unfolding computed identification header two_channels
channel_path = refl

-- the header's path is itself; the ID and an offset that no row has, be it inside a block, have none
pub header_path : path_exit 64 (lent 2 28 12 0 0 1) L
    ≡ record { answer = ok (counts 2 2 6 0 1); visited = 0 ∷ 64 ∷ []; blocks = L_rows 0; links = replicate 12 0; gaps = []; scratch = []; out = 64 ∷ [] }
unfolding computed identification header L L_rows
header_path = refl

pub header_path_short : (path_exit 64 (lent 2 28 12 0 0 0) L).answer ≡ err (refusal 13 0 0 1)
unfolding computed identification header L
header_path_short = refl

pub id_path : (path_exit 0 (lent 2 28 12 0 0 0) L).answer ≡ ok (counts 2 2 6 0 0)
unfolding computed identification header L
id_path = refl

pub unlisted_path : path_exit 65 (lent 2 28 12 0 0 3) L
    ≡ record { answer = ok (counts 2 2 6 0 0); visited = 0 ∷ 64 ∷ []; blocks = L_rows 0; links = replicate 12 0; gaps = []; scratch = []; out = replicate 3 0 }
unfolding computed identification header L L_rows
unlisted_path = refl

-- a refusal of the walk comes before all
pub path_walk_first : (path_exit 64 (lent 2 28 12 0 0 0) identification).answer ≡ err (refusal 1 64 168 64)
unfolding computed identification
path_walk_first = refl

-- Document 02, order 5: what the blanker leaves in the recording and in the tables
unfoldable pub tail_of_4 : List ℕ
tail_of_4 = L ++ 1 ∷ 2 ∷ 0 ∷ 4 ∷ []

pub blank_tail : blank_recording (lent 2 28 12 2 4 0) tail_of_4 ≡ L ++ replicate 4 0
unfolding computed identification header L tail_of_4
blank_tail = refl

pub blank_leaves : blank_exit (lent 2 28 12 2 4 0) tail_of_4
    ≡ record { answer = ok (counts 2 2 6 1 0); visited = 0 ∷ 64 ∷ []; blocks = L_rows 0; links = replicate 12 0; gaps = 168 ∷ 172 ∷ []; scratch = replicate 4 0; out = [] }
unfolding computed identification header L L_rows tail_of_4
blank_leaves = refl

-- each range is zeroed, from its first byte to its last
pub blank_two : blank_recording (lent 3 42 12 4 10 0) empty_text
    ≡ identification ++ header (replicate 40 0 ++ le_bytes 8 200) ++ replicate 32 0 ++ block (ascii "##TX") 0 0 [] ++ replicate 36 0
unfolding computed identification header empty_text
blank_two = refl

-- a refused call leaves the recording as it was and all tables zero: 13 of the scratch table, and 16
pub blank_untouched : blank_recording (lent 2 28 12 2 3 0) tail_of_4 ≡ tail_of_4
unfolding computed identification header L tail_of_4
blank_untouched = refl

pub blank_refused : blank_exit (lent 2 28 12 2 3 0) tail_of_4
    ≡ record { answer = err (refusal 13 0 1 2); visited = replicate 2 0; blocks = replicate 28 0; links = replicate 12 0; gaps = replicate 2 0; scratch = replicate 3 0; out = [] }
unfolding computed identification header L tail_of_4
blank_refused = refl

pub blank_flags : (blank_exit (lent 2 28 12 2 4 0) (flagged (1 ∷ 0 ∷ 2 ∷ 0 ∷ []))).answer ≡ err (refusal 16 60 1 2)
unfolding computed header flagged
blank_flags = refl

pub blank_flags_untouched : blank_recording (lent 2 28 12 2 4 0) (flagged (1 ∷ 0 ∷ 2 ∷ 0 ∷ [])) ≡ flagged (1 ∷ 0 ∷ 2 ∷ 0 ∷ [])
unfolding computed header flagged
blank_flags_untouched = refl

-- order 1: the 32 bytes of the file history's extent stay, the 24 behind it go
pub blank_history : blank_recording (lent 2 28 12 2 8 0) (history (ascii "##FH") 32) ≡ with_history (ascii "##FH" ++ replicate 4 7 ++ le_bytes 8 32 ++ replicate 16 7 ++ replicate 24 0)
unfolding computed identification header with_history history
blank_history = refl

-- where nothing is clear, nothing changes and nothing is counted
pub blank_nothing : blank_recording (lent 2 28 12 2 8 0) (history (ascii "##FH") 56) ≡ history (ascii "##FH") 56
unfolding computed identification header with_history history
blank_nothing = refl

pub preview_nothing : (preview_exit (lent 2 28 12 2 8 0) (history (ascii "##FH") 56)).answer ≡ ok (counts 2 2 6 1 0)
unfolding computed identification header with_history history
preview_nothing = refl

-- what the preview counts: one range, with three bytes that are not 0
pub preview_tail : preview_exit (lent 2 28 12 2 4 2) tail_of_4
    ≡ record {
      answer = ok (record { visited = 2; blocks = 2; links = 6; gaps = 1; bytes = 1; total = 3 });
      visited = 0 ∷ 64 ∷ [];
      blocks = L_rows 0;
      links = replicate 12 0;
      gaps = 168 ∷ 172 ∷ [];
      scratch = replicate 4 0;
      out = 3 ∷ 0 ∷ [];
    }
unfolding computed identification header L L_rows tail_of_4
preview_tail = refl

-- two ranges of 32 and 36 bytes, which two words take
pub preview_two : (preview_exit (lent 3 42 12 4 10 2) empty_text).out ≡ 32 ∷ 36 ∷ []
unfolding computed identification header empty_text
preview_two = refl

pub preview_total : (preview_exit (lent 3 42 12 4 10 2) empty_text).answer ≡ ok (record { visited = 3; blocks = 3; links = 6; gaps = 2; bytes = 2; total = 68 })
unfolding computed identification header empty_text
preview_total = refl

-- one word too few is 13, after that of the scratch table, which comes after 16
pub preview_short : (preview_exit (lent 3 42 12 4 10 1) empty_text).answer ≡ err (refusal 13 0 1 2)
unfolding computed identification header empty_text
preview_short = refl

pub preview_scratch : (preview_exit (lent 3 42 12 4 9 1) empty_text).answer ≡ err (refusal 13 0 4 5)
unfolding computed identification header empty_text
preview_scratch = refl

pub preview_flags : (preview_exit (lent 2 28 12 0 0 0) (flagged (1 ∷ 0 ∷ 2 ∷ 0 ∷ []))).answer ≡ err (refusal 16 60 1 2)
unfolding computed header flagged
preview_flags = refl

-- after the blanker nothing is left to count
pub preview_blanked : (preview_exit (lent 2 28 12 2 4 2) (blank_recording (lent 2 28 12 2 4 0) tail_of_4)).out ≡ 0 ∷ 0 ∷ []
unfolding computed identification header L tail_of_4
preview_blanked = refl

-- the byte behind L is clear, and so not read: two recordings that differ there are alike, and only the preview tells them apart
pub preview_of_0 : (preview_exit (lent 2 28 12 2 4 1) (L ++ 0 ∷ [])).out ≡ 0 ∷ []
unfolding computed identification header L
preview_of_0 = refl

pub preview_of_1 : (preview_exit (lent 2 28 12 2 4 1) (L ++ 1 ∷ [])).out ≡ 1 ∷ []
unfolding computed identification header L
preview_of_1 = refl
