-- Which fault is the one that is answered, in words that name no order of work.
use Rattle.std.specs.Prelude.{◌≡◌, false, List, [], ◌↔◌, Contains, IfSome, IsNone}
use Rattle.std.specs.List.{AllByRecursion}
use Rattle.rely_resolve.specs.Faults.{first_of, is_before}
use Rattle.rely_resolve.specs.declared.fault.NameFault.{NameFault}

-- one of the faults, and none comes before it
pub record IsFirst (faults : List NameFault) (first : NameFault) : Type 0 where
  pub one_of_them : Contains faults first
  pub none_before : AllByRecursion (λ f. is_before f first ≡ false) faults

-- what is answered for some faults is the first of them, and none is answered where there is none
abbrev pub AnswersFirst : Type 0
AnswersFirst = (faults : List NameFault) → (IsNone (first_of faults) ↔ (faults ≡ [])) × IfSome (first_of faults) (IsFirst faults)
