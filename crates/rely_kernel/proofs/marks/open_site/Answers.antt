use Rattle.std.proofs.Common.{◌≡◌, ◌↔◌, IfSome, IsNone, fold, None, sym, subst, ◌∙◌}
use Rattle.rely_kernel.specs.Setting.{IsClosed, IsEarliest, earlier, marks_of}
use Rattle.rely_kernel.proofs.Earliest.{earliest, fold-marks}
use Rattle.rely_kernel.proofs.marks.open_site.Goals as goal

-- what is answered is the first of the marks
found : (c : goal.After-first_of_sites) → c.first_of_sites.result ≡ fold earlier None (marks_of c.args.k.now)
found c =
    (rw (c.first_of_vars-first.ensures, c.as_slice.ensures, c.as_slice-2.ensures) at c.first_of_sites.ensures) ∙ fold-marks c.args.k.now

pub returns-clause-none : goal.returns-clause-none
returns-clause-none c = subst (λ o. IsNone o ↔ IsClosed c.args.k.now) (sym (found c)) (earliest (marks_of c.args.k.now)).0

pub returns-clause-first : goal.returns-clause-first
returns-clause-first c = subst (λ o. IfSome o (IsEarliest (marks_of c.args.k.now))) (sym (found c)) (earliest (marks_of c.args.k.now)).1
