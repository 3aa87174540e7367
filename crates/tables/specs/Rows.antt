-- Rows read off the words of a lent table, and a table of which the first words are in use.
use Rattle.std.specs.Prelude.{◌≡◌, List, [], ◌∷◌, ◌++◌, ℕ, zero, suc, ◌*◌, ◌≤◌, length, get_or, take, drop}
use Rattle.mdf4.specs.Act.{Kind, ID, HD, DG, CG, CN, SI, TX, MD, DT, SD, DL, UT, UD, Row, Link}
use Rattle.mdf4.specs.Answers.{block_row_words, pair_words, filled}
use Rattle.blocks.specs.Kind.{kind_named, number_of}
use Rattle.tables.specs.declared.BlockInfo.{BlockInfo}

-- the kind of document 01's number
unfoldable pub kind_of : ℕ → Kind
kind_of n = get_or (UD ∷ ID ∷ HD ∷ DG ∷ CG ∷ CN ∷ SI ∷ TX ∷ MD ∷ DT ∷ SD ∷ DL ∷ UT ∷ []) n UD

-- rows read off their words
unfoldable pub row_of_words : List ℕ → Row
row_of_words t = record {
  off = get_or t 0 0;
  end = get_or t 1 0;
  size = get_or t 2 0;
  mark = get_or t 3 0;
  kind = kind_of (get_or t 4 0);
  index = get_or t 5 0;
  first_link = get_or t 6 0;
  link_count = get_or t 7 0;
  record_size = get_or t 8 0;
  invalidation_bytes = get_or t 9 0;
  record_id_len = get_or t 10 0;
  from_block = get_or t 12 0;
  from_link = get_or t 13 0;
}

-- a row of the block table as the code has it, and the words that it is stored as: the twelfth is the tree mark
unfoldable pub row_of : BlockInfo → Row
row_of b = record {
  off = b.offset;
  end = b.end_offset;
  size = b.size;
  mark = b.mark;
  kind = kind_named b.kind;
  index = b.index;
  first_link = b.first_link;
  link_count = b.link_count;
  record_size = b.record_size;
  invalidation_bytes = b.invalidation_bytes;
  record_id_len = b.record_id_len;
  from_block = b.from_block;
  from_link = b.from_link;
}

abbrev pub info_words : BlockInfo → List ℕ
info_words b =
    b.offset ∷ b.end_offset ∷ b.size ∷ b.mark ∷ number_of b.kind ∷ b.index ∷ b.first_link ∷ b.link_count ∷ b.record_size ∷ b.invalidation_bytes
    ∷ b.record_id_len ∷ 0 ∷ b.from_block ∷ b.from_link ∷ []

unfoldable pub link_of_words : List ℕ → Link
link_of_words t = record { target = get_or t 0 0; found = get_or t 1 0 }

-- the first n rows of k words each, read by f
unfoldable pub table : {A : Type 0} → ℕ → (List ℕ → A) → ℕ → List ℕ → List A
table k f zero t = []
table k f (suc n) t = table k f n t ++ f (take k (drop (n * k) t)) ∷ []

-- the first n rows of the block table and of the link table
unfoldable pub held_rows : ℕ → List ℕ → List Row
held_rows n b = table block_row_words row_of_words n b

unfoldable pub held_links : ℕ → List ℕ → List Link
held_links n l = table pair_words link_of_words n l

-- the row at place i of the block table, and the link at place i of the link table
unfoldable pub row_at : ℕ → List ℕ → Row
row_at i b = row_of_words (take block_row_words (drop (i * block_row_words) b))

unfoldable pub link_at : ℕ → List ℕ → Link
link_at i l = link_of_words (take pair_words (drop (i * pair_words) l))

-- of a table t the first n words are in use, they are ws, and the words behind them are 0
pub record Used (n : ℕ) (ws t : List ℕ) : Type 0 where
  pub fits : n ≤ length t
  pub is : t ≡ filled (length t) ws
