-- Columns of debits above the least of a decision.
use Rattle.std.proofs.Common.{◌≡◌, ℕ, ◌+◌, ◌*◌, ◌≤◌, ◌<◌, List, [], ◌∷◌, ◌++◌, length, get_or, refl, ◌∙◌, arith}
use Rattle.std.specs.Prelude.{nat_lt}
use Rattle.std.proofs.lemmas.Bool.{ltb-true, ltb-false}
use Rattle.std.proofs.lemmas.List.{get_or_append_left, get_or_push, get_or_read, length_push}
use Rattle.chisel_table.specs.declared.table.Table.{Table}
use Rattle.chisel_table.specs.declared.table.TheConstants.{MAX_OPTIONS}
use Rattle.chisel_table.specs.Tables.{decision_count, option_count}
use Rattle.chisel_table.specs.Valid.{IsTable}
use Rattle.chisel_table.proofs.Sums.{by_test}
use Rattle.chisel_bound.specs.Columns.{column, AreColumnsTo}
use Rattle.chisel_table.specs.Grid.{place}

pub columns_none : (t : Table) → AreColumnsTo t 0 []
columns_none t = record { size = refl; each = λ d o k m n. absurd (omega arith) }

-- one column more, in a place that no option has or with what the option there needs
pub columns_more : (t : Table) (d o : ℕ) (columns : List (List ℕ)) (x : List ℕ) → IsTable t → o < MAX_OPTIONS →
    (o < option_count t d → x ≡ column t d o) → AreColumnsTo t (MAX_OPTIONS * d + o) columns → AreColumnsTo t (MAX_OPTIONS * d + (o + 1)) (columns ++ x ∷ [])
columns_more t d o columns x table l is h = record {
  size = let a = length_push columns x in let b = h.size in omega arith;
  each = λ e q k m n. by_test (nat_lt (place e q) (MAX_OPTIONS * d + o))
      (λ z. let under : place e q < MAX_OPTIONS * d + o = ltb-true (place e q) (MAX_OPTIONS * d + o) z in
      get_or_append_left columns (x ∷ []) [] (place e q) (let b = h.size in omega arith) ∙ h.each e q k m under)
      (λ z. let over : MAX_OPTIONS * d + o ≤ place e q = ltb-false (place e q) (MAX_OPTIONS * d + o) z in
      let few = table.few_options e k in
      let same_d : e ≡ d = omega arith in
      let same_o : q ≡ o = omega arith in
      rw (same_d, same_o) (
      get_or_push columns x [] (MAX_OPTIONS * d + o) h.size
      ∙ is (rw (same_d, same_o) at m)));
}

-- the column of an option, read at its place
pub column_read : (t : Table) (columns : List (List ℕ)) (d o : ℕ) (x : List ℕ) → IsTable t → AreColumnsTo t (MAX_OPTIONS * decision_count t) columns → d < decision_count t → o < option_count t d →
    x ≡ get_or columns (place d o) x → x ≡ column t d o
column_read t columns d o x table h k m e =
    let few = table.few_options d k in
    let room : place d o < MAX_OPTIONS * decision_count t = omega arith in
    let long : place d o < length columns = let a = h.size in omega arith in
    get_or_read columns (place d o) x long e [] ∙ h.each d o k m room
