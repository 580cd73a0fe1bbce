use Rattle.std.proofs.Common.{List, ℕ, Bor, ap, ◌∙◌}
use Rattle.std.specs.Cmp.Lexicographic.{bytes_decides}
use Rattle.indexmap.specs.IndexMap.{get_by}
use Rattle.rely_num.specs.Texts.{same_text}
use Rattle.rely_resolve.proofs.Tables.{is_absent, put_finds, same_back}
use Rattle.rely_resolve.proofs.variables.put.Goals as goal

pub returns-in-Ok : goal.returns-in-Ok
returns-in-Ok c = λ q.
    let key : Bor (List ℕ) = record { ref_ptr = (0, 0); now = q } in
    let name = c.args.name.now in
    c.in-Ok.ensures.updates.0 key
    ∙ put_finds c.args.number (get_by (λ k. same_text q k.now) c.args.table.now) (same_text name q) (same_text q name) (same_back name q)
    (λ e. ap (λ n. get_by (λ k. same_text n k.now) c.args.table.now) ((bytes_decides q name).0 e) ∙ is_absent _ c.if-contains_key.ensures)
