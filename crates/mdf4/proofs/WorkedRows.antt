-- Document 01's table: its starred rows ("Rows worked by hand"), all of them and in its order. A row has three columns: the input,
-- what is asked of it, and what that must be, worked by hand. One theorem proves the table by computation. Answers.antt has the
-- rows without a star.
use mathlib.Core.Path.{◌≡◌, refl}
use mathlib.Core.List.{List, [], ◌∷◌, ◌++◌}
use Prim.Native.Nat.{ℕ}
use lib.ListN.{replicate}
use Rattle.utf8.specs.Utf8.{lossy}
use Rattle.fmt.specs.Text.{ascii}
use Rattle.mdf4.specs.Bytes.{Range}
use Rattle.mdf4.specs.Act.{Refusal, refusal, Out, ok, err, Kind, HD, CG, TX, DT, Row}
use Rattle.mdf4.specs.Kinds.{read_block}
use Rattle.mdf4.specs.Version.{version}
use Rattle.mdf4.specs.Walk.{row_of, start}
use Rattle.mdf4.specs.Layout.{compute_gaps}
use Rattle.mdf4.specs.Describe.{name_text, tx_text, describe, extra_line}
use Rattle.mdf4.specs.Answers.{Lent, Exit, layout_exit, to_text_exit, to_tree_exit, clear_list_exit}
use Rattle.mdf4.proofs.Lists.{All}
use Rattle.mdf4.proofs.Computed.{computed}
use Rattle.mdf4.proofs.Recordings.{lent, counts, block, identification, header, L}

-- what is asked
pub data Question : Type 0 where
  -- of eight bytes: the version's number
  version_number : Question
  -- of extents, as start, end, start, end ..: the gaps in a file of so many bytes
  gaps_in : ℕ → Question
  -- of a block: its own bytes, read as a channel group
  channel_group : Question
  -- of bytes: the text, with U+FFFD for bad UTF-8
  decoded : Question
  -- of a block of a kind: its description and the line below, where records have so many bytes
  description line_below : Kind → ℕ → Question
  -- of a text block: the channel's name that it gives, and its text
  channel_name text : Question
  -- of a recording: an entry's answer, and what it leaves in memory of these lengths
  layout listing tree clear_list : Lent → Question

-- what it must be
pub data Value : Type 0 where
  refused : Refusal → Value
  number : ℕ → Value
  ranges : List Range → Value
  bytes : List ℕ → Value
  leaves : Exit → Value

unfoldable pub or_refused : {A : Type 0} → (A → Value) → Out A → Value
or_refused f (ok a) = f a
or_refused f (err e) = refused e

unfoldable pub pairs : List ℕ → List Range
pairs [] = []
pairs (a ∷ []) = []
pairs (a ∷ b ∷ xs) = (a, b) ∷ pairs xs

-- the row of a block that stands at 0
unfoldable pub row_at_0 : Kind → ℕ → List ℕ → Row
row_at_0 k size r =
    row_of k 0 (record { record_size = size; invalidation_bytes = 0; record_id_len = 0 }) (start (record { visited = 0; blocks = 0; links = 0 })) r []

-- what each question asks of the definition
unfoldable pub answer : Question → List ℕ → Value
answer version_number r = or_refused number (version r)
answer (gaps_in len) r = ranges (compute_gaps len 0 (pairs r))
answer channel_group r = or_refused bytes (read_block CG r 0)
answer decoded r = bytes (lossy r)
answer (description k size) r = bytes (describe r (row_at_0 k size r))
answer (line_below k size) r = bytes (extra_line r (row_at_0 k size r))
answer channel_name r = bytes (name_text r)
answer text r = bytes (tx_text r)
answer (layout n) r = leaves (layout_exit n r)
answer (listing n) r = leaves (to_text_exit n r)
answer (tree n) r = leaves (to_tree_exit n r)
answer (clear_list n) r = leaves (clear_list_exit n r)

-- Values too long for a line. Of a data block with block_len 124 and records of 30 bytes:
unfoldable pub three_records : List ℕ
three_records =
    replicate 44 32 ++ ascii "payload=100 bytes, header=24 bytes, record layout = 30B (record_id=0B + data + invalidation=0B), records=3, trailing=10B\n"

-- L's block rows; the tree mark is 1 after a tree
unfoldable pub L_rows : ℕ → List ℕ
L_rows tree_mark =
    0 ∷ 64 ∷ 64 ∷ 0x44492323 ∷ 1 ∷ 0 ∷ 0 ∷ 0 ∷ 0 ∷ 0 ∷ 0 ∷ tree_mark ∷ 0 ∷ 0
    ∷ 64 ∷ 168 ∷ 104 ∷ 0x44482323 ∷ 2 ∷ 0 ∷ 0 ∷ 6 ∷ 0 ∷ 0 ∷ 0 ∷ tree_mark ∷ 0 ∷ 0 ∷ []

-- what L leaves in tables lent exactly: the tree mark, the words of the scratch table, and the output's length and bytes
unfoldable pub L_leaves : ℕ → ℕ → ℕ → List ℕ → Value
L_leaves tree_mark scratch n out = leaves (record {
  answer = ok (counts 2 2 6 0 n);
  visited = 0 ∷ 64 ∷ [];
  blocks = L_rows tree_mark;
  links = replicate 12 0;
  gaps = [];
  scratch = replicate scratch 0;
  out = out;
})

unfoldable pub L_listing : List ℕ
L_listing =
    ascii "MDF block layout (file size: 168 bytes / 0xa8)\n"
    ++ ascii "\n"
    ++ ascii "Blocks (2 total), sorted by offset:\n"
    ++ ascii "offset        end                 size  type    description\n"
    ++ ascii "------------  ------------  ----------  ------  ------------------------------------------------------------\n"
    ++ ascii "0x0000000000  0x0000000040          64  ##ID    Identification: version='4.10', program='console1'\n"
    ++ ascii "                                            version_number=410, standard_unfinalized_flags=0x0000, custom_unfinalized_flags=0x0000\n"
    ++ ascii "0x0000000040  0x00000000a8         104  ##HD    Header Block (abs_time=0 ns, tz=0 min)\n"
    ++ ascii "                                            flags=0x00, time_flags=0x00, time_quality=0x00\n"
    ++ ascii "\n"
    ++ ascii "Block links:\n"
    ++ ascii "  ##HD @ 0x0000000040 (Header Block (abs_time=0 ns, tz=0 min))\n"
    ++ ascii "    first_dg_addr                -> (null)\n"
    ++ ascii "    file_history_addr            -> (null)\n"
    ++ ascii "    channel_tree_addr            -> (null)\n"
    ++ ascii "    first_attachment_addr        -> (null)\n"
    ++ ascii "    first_event_addr             -> (null)\n"
    ++ ascii "    comment_addr                 -> (null)\n"

unfoldable pub L_tree : List ℕ
L_tree =
    ascii "##ID @ 0x0000000000 [Identification: version='4.10', program='console1']\n"
    ++ ascii "##HD @ 0x0000000040 [Header Block (abs_time=0 ns, tz=0 min)]\n"

-- The table: input, what is asked, what it must be.
pub data Worked : Type 0 where
  row : List ℕ → Question → Value → Worked

unfoldable pub rows : List Worked
rows =
    -- "`4.1` is 401, refused; `4.10` and `0.410` are 410; `+4.10` too; `4.` is refusal 3; `655.35` is 65,535; `655.36` is refusal 7."
    row (ascii "4.1     ") version_number (refused (refusal 4 8 401 0))
    ∷ row (ascii "4.10    ") version_number (number 410)
    ∷ row (ascii "0.410   ") version_number (number 410)
    ∷ row (ascii "+4.10   ") version_number (number 410)
    ∷ row (ascii "4.      ") version_number (refused (refusal 3 8 3 0))
    ∷ row (ascii "655.35  ") version_number (number 65535)
    ∷ row (ascii "655.36  ") version_number (refused (refusal 7 8 655 36))
    -- "Extents 0..64, 64..168, 200..200, 220..240 in 260 bytes: gaps 168..200, 200..220, 240..260."
    ∷ row (0 ∷ 64 ∷ 64 ∷ 168 ∷ 200 ∷ 200 ∷ 220 ∷ 240 ∷ []) (gaps_in 260) (ranges ((168, 200) ∷ (200, 220) ∷ (240, 260) ∷ []))
    -- "CG, 6 links: block_len 103 refused, 104 not; 5 links refused."
    ∷ row (block (ascii "##CG") 103 6 (replicate 80 0)) channel_group (refused (refusal 6 0 6 103))
    ∷ row (block (ascii "##CG") 104 6 (replicate 80 0)) channel_group (bytes (block (ascii "##CG") 104 6 (replicate 80 0)))
    ∷ row (block (ascii "##CG") 104 5 (replicate 80 0)) channel_group (refused (refusal 6 0 5 104))
    -- "61 E2 82 62 hex: one U+FFFD. F0 80 80 hex: three."
    ∷ row (0x61 ∷ 0xe2 ∷ 0x82 ∷ 0x62 ∷ []) decoded (bytes (0x61 ∷ 0xef ∷ 0xbf ∷ 0xbd ∷ 0x62 ∷ []))
    ∷ row (0xf0 ∷ 0x80 ∷ 0x80 ∷ []) decoded (bytes (0xef ∷ 0xbf ∷ 0xbd ∷ 0xef ∷ 0xbf ∷ 0xbd ∷ 0xef ∷ 0xbf ∷ 0xbd ∷ []))
    -- "block_len 124 with record 30: payload 100, 3 records, trailing 10. block_len 10: payload 0."
    ∷ row (block (ascii "##DT") 124 0 []) (description DT 30) (bytes (ascii "Data block (100 payload bytes)"))
    ∷ row (block (ascii "##DT") 124 0 []) (line_below DT 30) (bytes three_records)
    ∷ row (block (ascii "##DT") 10 0 []) (description DT 30) (bytes (ascii "Data block (0 payload bytes)"))
    -- "00 41 00 42 00 hex: name A NUL B; text empty."
    ∷ row (block (ascii "##TX") 29 0 (0x00 ∷ 0x41 ∷ 0x00 ∷ 0x42 ∷ 0x00 ∷ [])) channel_name (bytes (0x41 ∷ 0x00 ∷ 0x42 ∷ []))
    ∷ row (block (ascii "##TX") 29 0 (0x00 ∷ 0x41 ∷ 0x00 ∷ 0x42 ∷ 0x00 ∷ [])) text (bytes [])
    -- "Preview: 48 characters whole; 49 gives 48 and `...`."
    ∷ row (block (ascii "##TX") 72 0 (replicate 48 97)) (description TX 0) (bytes (ascii "Text: \"" ++ replicate 48 97 ++ ascii "\" (48 chars)"))
    ∷ row (block (ascii "##TX") 73 0 (replicate 49 97)) (description TX 0) (bytes (ascii "Text: \"" ++ replicate 48 97 ++ ascii "...\" (49 chars)"))
    -- "Time zone bytes 00 80 hex print -32768.": bytes 80 and 81 of a header
    ∷ row (block (ascii "##HD") 104 6 (replicate 56 0 ++ 0x00 ∷ 0x80 ∷ replicate 22 0)) (description HD 0) (bytes (ascii "Header Block (abs_time=0 ns, tz=-32768 min)"))
    -- L: its layout, its listing byte for byte, "Its tree is two root lines, ID then HD.", and no clear byte
    ∷ row L (layout (lent 2 28 12 0 0 0)) (L_leaves 0 0 0 [])
    ∷ row L (listing (lent 2 28 12 0 0 996)) (L_leaves 0 0 996 L_listing)
    ∷ row L (tree (lent 2 28 12 0 0 134)) (L_leaves 1 0 134 L_tree)
    ∷ row L (clear_list (lent 2 28 12 0 4 24)) (L_leaves 0 4 24 (ascii "CLR" ++ 1 ∷ 0 ∷ 0 ∷ 0 ∷ 0 ∷ 168 ∷ replicate 15 0))
    ∷ []

abbrev pub Holds : Worked → Type 0
Holds (row input asked must_be) = answer asked input ≡ must_be

-- every row holds: by computation, row by row, so that the prover names a row that became false
pub rows_hold : All Holds rows
unfolding computed identification header L or_refused pairs row_at_0 answer three_records L_rows L_leaves L_listing L_tree rows
rows_hold = (refl, (refl, (refl, (refl, (refl, (refl, (refl, (refl, (refl, (refl, (refl, (refl, (refl, (refl, (refl, (refl, (refl, (refl, (refl, (refl, (refl, (refl, (refl, (refl, (refl, tt)))))))))))))))))))))))))
