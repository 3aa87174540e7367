-- `from_block` meets its contract: the row that the search finds, or none.
use Rattle.std.proofs.Common.{◌≡◌, ◌∙◌, [], get_or}
use Rattle.tables.specs.Rows.{row_of, row_of_words}
use Rattle.to_path.proofs.Finding.{from_none, from_found, loaded}
use Rattle.to_path.proofs.from_block.Goals as goal

pub returns-in_default : goal.returns-in_default
returns-in_default c = from_none c.args.rows.now c.args.offset c.requires _ c.find_row.ensures c.in_default.not-Some

pub returns : goal.returns
returns c =
    let e : row_of c.load.result ≡ row_of_words (get_or c.args.rows.now c.in-Some.i []) = c.load.ensures in
    loaded _ e ∙ from_found c.args.rows.now c.args.offset c.requires _ c.find_row.ensures c.in-Some.is
