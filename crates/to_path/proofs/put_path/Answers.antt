-- `put_path` meets its contract: the identification, an offset that no row has, or a path that fits or not.
use Rattle.to_path.proofs.Finding.{listed_none, listed_found}
use Rattle.to_path.proofs.Going.{put_id, put_unlisted, put_fitting, put_long}
use Rattle.to_path.proofs.put_path.Goals as goal
use Rattle.to_path.proofs.put_path.Goals.{then-offset-eq0-via-then-offset-eq0, then-offset-eq0-via-else-offset-eq0+then-is_none}

pub returns-then-offset-eq0 : goal.returns-then-offset-eq0
returns-then-offset-eq0 c y e =
    let a = c.args in
    elim c.then-offset-eq0.branch [
      | then-offset-eq0-via-then-offset-eq0 w ↦ put_id a.rows.now a.offset a.path.now y e w.if-offset-eq0.true
      | then-offset-eq0-via-else-offset-eq0+then-is_none w ↦
          put_unlisted a.rows.now a.offset a.path.now y e w.if-offset-eq0.false
          (listed_none a.rows.now a.offset c.requires _ w.find_row.ensures _ w.is_none.ensures w.if-is_none.true)
    ]

pub returns-then-count-path : goal.returns-then-count-path
returns-then-count-path c y e =
    let a = c.args in
    let h = listed_found a.rows.now a.offset _ c.find_row.ensures _ c.is_none.ensures c.if-is_none.false in
    put_fitting a.rows.now a.offset a.path.now y e c.if-offset-eq0.false h c.path_len-count.ensures c.if-count-path.true c.fill_path.ensures

pub returns-else-count-path : goal.returns-else-count-path
returns-else-count-path c y e =
    let a = c.args in
    let h = listed_found a.rows.now a.offset _ c.find_row.ensures _ c.is_none.ensures c.if-is_none.false in
    put_long a.rows.now a.offset a.path.now y e c.if-offset-eq0.false h c.path_len-count.ensures c.if-count-path.false
