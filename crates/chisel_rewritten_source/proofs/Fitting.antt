-- A kernel's own marks are named as what they are: those of variables as memories, those of operators as kinds, and no other.
use Rattle.std.proofs.Common.{◌≡◌, ℕ, zero, suc, ◌<◌, ◌≤◌, ◌==◌, Bool, true, false, cond, List, [], ◌∷◌, ◌++◌, map, filter_map, flat_map, drop, length, filter, Option, Some, refl, ap, sym, ◌∙◌, subst, arith, if◌then◌else◌}
use Rattle.std.specs.Prelude.{slice_get}
use Rattle.std.specs.List.{AllByRecursion, cons_option, zip}
use Rattle.std.specs.Option.{option_map_or}
use Rattle.std.proofs.lemmas.Bool.{eqb-true}
use Rattle.std.proofs.lemmas.List.{append-nil}
use Rattle.std.proofs.lemmas.Option.{none-some}
use Rattle.rely_num.specs.Texts.{Bytes}
use Rattle.rely_num.specs.declared.span.Span.{Span}
use Rattle.rely_num.specs.declared.word.Word.TheVariants as word
use Rattle.rely_hard.specs.declared.hardware.Hardware.{Hardware}
use Rattle.rely_kernel.specs.Choice.{IsChoice}
use Rattle.rely_kernel.specs.Setting.{open_mark}
use Rattle.rely_kernel.specs.declared.kernel.Kernel.{Kernel}
use Rattle.rely_kernel.specs.declared.kernel.Linked.{Linked}
use Rattle.rely_kernel.specs.declared.kernel.Site.{Site}
use Rattle.rely_kernel.specs.declared.kernel.Slot.{Slot}
use Rattle.rely_kernel.specs.declared.kernel.Slot.TheVariants.{Named, Free}
use Rattle.rely_kernel.specs.declared.kernel.Var.{Var}
use Rattle.rely_lexer.specs.Readings.{AreTokensFrom}
use Rattle.rely_lexer.specs.declared.token.Token.{Token}
use Rattle.rely_tree.specs.Marks.{block_marks, decls_marks, function_marks}
use Rattle.rely_tree.specs.Tree.{FuncTree, UnitTree, ended}
use Rattle.rely_parser.specs.Productions as grammar
use Rattle.rely_parser.specs.Productions.{one, seq, Func, OneOrMore, Spelled}
use Rattle.rely_parser.proofs.MarkedExprs.{Marked, none, pass, mark, join, each-marks}
use Rattle.rely_parser.proofs.MarkedUnits.{func-marks}
use Rattle.rely_resolve.specs.Kernels.{Done, kernel_of}
use Rattle.rely_resolve.specs.Linked.{nothing_done}
use Rattle.rely_resolve.specs.Reached.{IsLinkedBy, done_with}
use Rattle.rely_resolve.proofs.Marked.{kernel_marked}
use Rattle.chisel_rewrite.specs.Namings.{is_open, kind_namings, mark_of, memory_namings, namings, open_sites}
use Rattle.chisel_rewrite.specs.declared.naming.Naming.{Naming}
use Rattle.chisel_rewrite.specs.declared.naming.Naming.TheVariants.{Kind, Memory}
use Rattle.chisel_rewrite.proofs.Places.{marks_named}
use Rattle.rely_resolve.proofs.ValidNames.{both_hold, each_holds}
use Rattle.chisel_rewritten_source.proofs.Sources.{all_mapped}
use Rattle.chisel_rewritten_source.specs.Trees.{naming_at}
use Rattle.chisel_rewritten_source.proofs.Carried.{AsKind, AsMemory, is_kind, is_memory}
use Rattle.chisel_rewritten_source.proofs.CarriedUnits.{Fits}

-- ---- lists

pub all_map : {X : Type 0} (P Q : X → Type 0) → ((x : X) → P x → Q x) → (xs : List X) → AllByRecursion P xs → AllByRecursion Q xs
all_map P Q f [] all = tt
all_map P Q f (x ∷ xs) all = (f x all.0, all_map P Q f xs all.1)

all_flip : {X Y : Type 0} (R : X → Y → Type 0) (xs : List X) (ys : List Y) → AllByRecursion (λ x. AllByRecursion (R x) ys) xs → AllByRecursion (λ y. AllByRecursion (λ x. R x y) xs) ys
all_flip R xs [] all = tt
all_flip R xs (y ∷ ys) all = (
  all_map (λ x. AllByRecursion (R x) (y ∷ ys)) (λ x. R x y) (λ x a. a.0) xs all,
  all_flip R xs ys (all_map (λ x. AllByRecursion (R x) (y ∷ ys)) (λ x. AllByRecursion (R x) ys) (λ x a. a.1) xs all),
)

-- ---- spans in rising places

abbrev pub Rising : ℕ → List Span → Type 0
Rising place [] = Unit {0}
Rising place (m ∷ ms) = (place ≤ m.from) × (m.from < m.to) × Rising m.to ms

rising_from : (place later : ℕ) (ms : List Span) → place ≤ later → Rising later ms → Rising place ms
rising_from place later [] before r = tt
rising_from place later (m ∷ ms) before r = (omega (arith, before, r.0), r.1, r.2)

rising_marks : (text : Bytes) (place : ℕ) {ts rest : List Token} {marks : List Span} → Marked ts rest marks → AreTokensFrom text place ts → Rising place marks
rising_marks text place none h = tt
rising_marks text place (pass {t = t} {marks = marks} i) (after, full, fits, gap, form, longest, more) =
    rising_from place t.span.to marks (omega (arith, after, full)) (rising_marks text t.span.to i more)
rising_marks text place (mark {t = t} p i) (after, full, fits, gap, form, longest, more) = (after, full, rising_marks text t.span.to i more)

pub rising_behind : (place : ℕ) (ms : List Span) → Rising place ms → AllByRecursion (λ m. place ≤ m.from) ms
rising_behind place [] r = tt
rising_behind place (m ∷ ms) r =
    let full = r.1 in
    let first = r.0 in
    (r.0, all_map (λ n. m.to ≤ n.from) (λ n. place ≤ n.from) (λ n behind. omega (arith, first, full, behind)) ms (rising_behind m.to ms r.2))

rising_front : (place : ℕ) (xs ys : List Span) → Rising place (xs ++ ys) → Rising place xs
rising_front place [] ys r = tt
rising_front place (x ∷ xs) ys r = (r.0, r.1, rising_front x.to xs ys r.2)

rising_back : (place : ℕ) (xs ys : List Span) → Rising place (xs ++ ys) → Rising 0 ys
rising_back place [] ys r = rising_from 0 place ys (omega arith) r
rising_back place (x ∷ xs) ys r = rising_back x.to xs ys r.2

-- those in front stand before those behind
abbrev Before : List Span → Span → Type 0
Before ys x = AllByRecursion (λ y. x.from < y.from) ys

rising_before : (place : ℕ) (xs ys : List Span) → Rising place (xs ++ ys) → AllByRecursion (Before ys) xs
rising_before place [] ys r = tt
rising_before place (x ∷ xs) ys r =
    let full = r.1 in
    let later = each_holds (λ n. x.to ≤ n.from) xs ys (rising_behind x.to (xs ++ ys) r.2) in
    (all_map (λ n. x.to ≤ n.from) (λ n. x.from < n.from) (λ n behind. omega (arith, full, behind)) ys later.1, rising_before x.to xs ys r.2)

-- ---- what a place is named with

pub found : (Q : Naming → Type 0) (ns : List Naming) (place : ℕ) → AllByRecursion (λ n. (mark_of n).from ≡ place → Q n) ns → (n : Naming) → naming_at ns place ≡ Some n → Q n
found Q [] place all n e = absurd (none-some n e)
found Q (m ∷ ms) place all n e = one ((mark_of m).from == place) refl (found Q ms place all.1 n) e
  where
    one : (same : Bool) → ((mark_of m).from == place) ≡ same → (naming_at ms place ≡ Some n → Q n) → cond same (Some m) (naming_at ms place) ≡ Some n → Q n
    one true is rest e = subst Q (ap (λ (o : Option Naming). option_map_or (λ n. n) o m) e) (all.0 (eqb-true (mark_of m).from place is))
    one false is rest e = rest e

-- no mark that is named begins there
abbrev pub Away : List Naming → Span → Type 0
Away ns m = AllByRecursion (λ n. (mark_of n).from ≡ m.from → ⊥) ns

away_kind : (ns : List Naming) (m : Span) → Away ns m → AsKind ns m
away_kind ns m away n e = absurd (found (λ n. ⊥) ns m.from away n e)

away_memory : (ns : List Naming) (m : Span) → Away ns m → AsMemory ns m
away_memory ns m away n e = absurd (found (λ n. ⊥) ns m.from away n e)

away_fits : (ns : List Naming) (g : FuncTree) → AllByRecursion (Away ns) (function_marks g) → Fits ns g
away_fits ns g away =
    let parts = each_holds (Away ns) (decls_marks g.params ++ decls_marks g.locals) (block_marks g.body) away in
    record {
      memories = all_map (Away ns) (AsMemory ns) (away_memory ns) (decls_marks g.params ++ decls_marks g.locals) parts.0;
      kinds = all_map (Away ns) (AsKind ns) (away_kind ns) (block_marks g.body) parts.1;
    }

-- ---- the namings of a kernel

-- what holds of the open marks holds of those that are named
module _ {X : Type 0} (slot : X → Slot) (mark : X → Span) (naming : X → ℕ → Naming) (same : (x : X) (o : ℕ) → mark_of (naming x o) ≡ mark x) (P : Span → Type 0) where
  marks_have : (xs : List X) (os : List ℕ) → AllByRecursion P (filter_map (λ x. open_mark (slot x) (mark x)) xs)
      → AllByRecursion (λ n. P (mark_of n)) (map (λ p. naming p.0 p.1) (zip (filter (λ x. is_open (slot x)) xs) os))
  marks_have [] os all = tt
  marks_have (x ∷ xs) os all = one (slot x) os (marks_have xs) all
    where
      one : (s : Slot) (os : List ℕ)
          → ((os : List ℕ) → AllByRecursion P (filter_map (λ x. open_mark (slot x) (mark x)) xs) → AllByRecursion (λ n. P (mark_of n)) (map (λ p. naming p.0 p.1) (zip (filter (λ x. is_open (slot x)) xs) os)))
          → AllByRecursion P (cons_option (open_mark s (mark x)) (filter_map (λ x. open_mark (slot x) (mark x)) xs))
          → AllByRecursion (λ n. P (mark_of n)) (map (λ p. naming p.0 p.1) (zip (if is_open s then x ∷ filter (λ x. is_open (slot x)) xs else filter (λ x. is_open (slot x)) xs) os))
      one (Named n) os rest all = rest os all
      one Free [] rest all = tt
      one Free (o ∷ os) rest all = (subst P (sym (same x o)) all.0, rest os all.1)

kinds_are : (places : List (Site × ℕ)) → AllByRecursion (λ n. is_kind n ≡ true) (map (λ p. Kind p.0.mark p.0.op p.1) places)
kinds_are [] = tt
kinds_are (p ∷ places) = (refl, kinds_are places)

memories_are : (places : List (Var × ℕ)) → AllByRecursion (λ n. is_memory n ≡ true) (map (λ p. Memory p.0.mark p.1) places)
memories_are [] = tt
memories_are (p ∷ places) = (refl, memories_are places)

module _ (h : Hardware) (done : Done) (f : FuncTree) (choice : List ℕ) where
  abbrev k : Kernel
  k = kernel_of h done f

  abbrev mems : List Naming
  mems = memory_namings k.vars (drop (length (open_sites k.sites)) choice)

  abbrev kinds : List Naming
  kinds = kind_namings k.sites choice

  abbrev decls : List Span
  decls = decls_marks f.params ++ decls_marks f.locals

  -- the marks of the variables, and of the sites, are those of the function
  pub vars_marked : filter_map (λ v. open_mark v.memory v.mark) k.vars ≡ decls
  vars_marked =
      let marks = filter_map (λ (v : Var). open_mark v.memory v.mark) k.vars in
      sym (append-nil marks) ∙ (kernel_marked h done (record f { body = ended }) ∙ append-nil decls)

  pub sites_marked : filter_map (λ s. open_mark s.kind s.mark) k.sites ≡ block_marks f.body
  sites_marked = kernel_marked h done (record f { params = []; locals = [] })

  own_fits : Rising 0 (function_marks f) → Fits (namings k choice) f
  own_fits rising =
      let before = rising_before 0 decls (block_marks f.body) rising in
      let behind = all_flip (λ x y. x.from < y.from) decls (block_marks f.body) before in
      record {
        memories = all_map (Before (block_marks f.body)) (AsMemory (namings k choice)) as_memory decls before;
        kinds = all_map (λ y. AllByRecursion (λ x. x.from < y.from) decls) (AsKind (namings k choice)) as_kind (block_marks f.body) behind;
      }
    where
      as_memory : (m : Span) → Before (block_marks f.body) m → AsMemory (namings k choice) m
      as_memory m before n e =
          let sites = marks_have (λ (s : Site). s.kind) (λ s. s.mark) (λ s o. Kind s.mark s.op o) (λ s o. refl) (λ y. m.from < y.from) k.sites choice
          (subst (AllByRecursion (λ y. m.from < y.from)) (sym sites_marked) before) in
          let memories = memories_are (zip (filter (λ v. is_open v.memory) k.vars) (drop (length (open_sites k.sites)) choice)) in
          found (λ n. is_memory n ≡ true) (namings k choice) m.from
          (both_hold (λ n. (mark_of n).from ≡ m.from → is_memory n ≡ true) mems kinds
          (all_map (λ n. is_memory n ≡ true) (λ n. (mark_of n).from ≡ m.from → is_memory n ≡ true) (λ n is same. is) mems memories)
          (all_map (λ n. m.from < (mark_of n).from) (λ n. (mark_of n).from ≡ m.from → is_memory n ≡ true) (λ n later same. absurd (omega (arith, later, same))) kinds sites))
          n e

      as_kind : (m : Span) → AllByRecursion (λ x. x.from < m.from) decls → AsKind (namings k choice) m
      as_kind m behind n e =
          let vars = marks_have (λ (v : Var). v.memory) (λ v. v.mark) (λ v o. Memory v.mark o) (λ v o. refl) (λ x. x.from < m.from) k.vars (drop (length (open_sites k.sites)) choice)
          (subst (AllByRecursion (λ x. x.from < m.from)) (sym vars_marked) behind) in
          let sites = kinds_are (zip (open_sites k.sites) choice) in
          found (λ n. is_kind n ≡ true) (namings k choice) m.from
          (both_hold (λ n. (mark_of n).from ≡ m.from → is_kind n ≡ true) mems kinds
          (all_map (λ n. (mark_of n).from < m.from) (λ n. (mark_of n).from ≡ m.from → is_kind n ≡ true) (λ n earlier same. absurd (omega (arith, earlier, same))) mems vars)
          (all_map (λ n. is_kind n ≡ true) (λ n. (mark_of n).from ≡ m.from → is_kind n ≡ true) (λ n is same. is) kinds sites))
          n e

  -- ---- all functions

  module _ (same : map mark_of (namings k choice) ≡ function_marks f) where
    -- what holds of the function's marks holds of those that are named
    named_have : (P : Span → Type 0) → AllByRecursion P (function_marks f) → AllByRecursion (λ n. P (mark_of n)) (namings k choice)
    named_have P all = all_mapped P mark_of (namings k choice) (subst (AllByRecursion P) (sym same) all)

    before_away : (m : Span) → Before (function_marks f) m → Away (namings k choice) m
    before_away m before =
        all_map (λ n. m.from < (mark_of n).from) (λ n. (mark_of n).from ≡ m.from → ⊥) (λ n later same. absurd (omega (arith, later, same))) (namings k choice) (named_have (λ y. m.from < y.from) before)

    behind_away : (m : Span) → AllByRecursion (λ x. x.from < m.from) (function_marks f) → Away (namings k choice) m
    behind_away m behind =
        all_map (λ n. (mark_of n).from < m.from) (λ n. (mark_of n).from ≡ m.from → ⊥) (λ n earlier same. absurd (omega (arith, earlier, same))) (namings k choice) (named_have (λ x. x.from < m.from) behind)

    -- what holds of all functions' marks holds of those of one
    marks_at : (P : Span → Type 0) (gs : List FuncTree) (place : ℕ) → AllByRecursion P (flat_map function_marks gs) → slice_get gs place ≡ Some f → AllByRecursion P (function_marks f)
    marks_at P [] place all e = absurd (none-some f e)
    marks_at P (g ∷ gs) zero all e =
        subst (λ g. AllByRecursion P (function_marks g)) (ap (λ (o : Option FuncTree). option_map_or (λ g. g) o g) e) (each_holds P (function_marks g) (flat_map function_marks gs) all).0
    marks_at P (g ∷ gs) (suc place) all e = marks_at P gs place (each_holds P (function_marks g) (flat_map function_marks gs) all).1 e

    -- what holds of the function, and of each of whose marks none is named, holds of all
    module _ (P : FuncTree → Type 0) (own : Rising 0 (function_marks f) → P f) (away : (g : FuncTree) → AllByRecursion (Away (namings k choice)) (function_marks g) → P g) where
      all_away : (gs : List FuncTree) → AllByRecursion (Away (namings k choice)) (flat_map function_marks gs) → AllByRecursion P gs
      all_away [] none_named = tt
      all_away (g ∷ gs) none_named =
          let parts = each_holds (Away (namings k choice)) (function_marks g) (flat_map function_marks gs) none_named in
          (away g parts.0, all_away gs parts.1)

      each_function : (gs : List FuncTree) (place : ℕ) → Rising 0 (flat_map function_marks gs) → slice_get gs place ≡ Some f → AllByRecursion P gs
      each_function [] place rising e = tt
      each_function (g ∷ gs) zero rising e =
          let is : g ≡ f = ap (λ (o : Option FuncTree). option_map_or (λ g. g) o g) e in
          let mine : Rising 0 (function_marks f ++ flat_map function_marks gs) = subst (λ g. Rising 0 (function_marks g ++ flat_map function_marks gs)) is rising in
          let behind = all_flip (λ x y. x.from < y.from) (function_marks f) (flat_map function_marks gs) (rising_before 0 (function_marks f) (flat_map function_marks gs) mine) in (
            subst P (sym is) (own (rising_front 0 (function_marks f) (flat_map function_marks gs) mine)),
            all_away gs (all_map (λ y. AllByRecursion (λ x. x.from < y.from) (function_marks f)) (Away (namings k choice)) behind_away (flat_map function_marks gs) behind),
          )
      each_function (g ∷ gs) (suc place) rising e =
          let before = rising_before 0 (function_marks g) (flat_map function_marks gs) rising in (
            away g (all_map (Before (flat_map function_marks gs)) (Away (namings k choice))
                (λ m before. before_away m (marks_at (λ y. m.from < y.from) gs place before e)) (function_marks g) before),
            each_function gs place (rising_back 0 (function_marks g) (flat_map function_marks gs) rising) e,
          )

-- ---- units

unit_marks : (says : Span → Bytes) {ts rest : List Token} {fs : List FuncTree} → OneOrMore word.Fn (Func says) ts rest fs → Marked ts rest (flat_map function_marks fs)
unit_marks says (seq (one p) (seq f (seq e grammar.done))) = pass (join (func-marks says f) (each-marks function_marks (λ ts rest a d. func-marks says d) e))

-- what holds of the function that is named, and of each of whose marks none is named, holds of all functions of a source
pub each_of_unit : (text : Bytes) (tokens : List Token) (u : UnitTree) (h : Hardware) (done : Done) (f : FuncTree) (place : ℕ) (choice : List ℕ) (P : FuncTree → Type 0)
    → AreTokensFrom text 0 tokens → Spelled text tokens u → IsChoice (kernel_of h done f) h choice → slice_get u.functions place ≡ Some f
    → (Rising 0 (function_marks f) → P f) → ((g : FuncTree) → AllByRecursion (Away (namings (kernel_of h done f) choice)) (function_marks g) → P g) → AllByRecursion P u.functions
each_of_unit text tokens u h done f place choice P are spelled chosen stands own away =
    each_function h done f choice (marks_named (kernel_of h done f) h choice chosen ∙ kernel_marked h done f) P own away u.functions place
    (rising_marks text 0 (unit_marks spelled.says spelled.spells) are) stands

pub unit_fits : (text : Bytes) (tokens : List Token) (u : UnitTree) (h : Hardware) (name : Bytes) (l : Linked) (choice : List ℕ)
    → AreTokensFrom text 0 tokens → Spelled text tokens u → IsLinkedBy h u name l → IsChoice l.kernel h choice → AllByRecursion (Fits (namings l.kernel choice)) u.functions
unit_fits text tokens u h name l choice are spelled linked is =
    let done = done_with h nothing_done linked.reached in
    let f = linked.function in
    let same : l.kernel ≡ kernel_of h done f = ap (λ (l : Linked). l.kernel) linked.linked in
    let chosen : IsChoice (kernel_of h done f) h choice = subst (λ k. IsChoice k h choice) same is in
    subst (λ k. AllByRecursion (Fits (namings k choice)) u.functions) (sym same)
    (each_of_unit text tokens u h done f linked.place choice (Fits (namings (kernel_of h done f) choice)) are spelled chosen linked.stands (own_fits h done f choice)
    (away_fits (namings (kernel_of h done f) choice)))
