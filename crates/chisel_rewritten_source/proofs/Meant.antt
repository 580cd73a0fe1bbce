-- The kernel of the rewritten source.
use Rattle.std.proofs.Common.{◌≡◌, ℕ, ◌<◌, ◌≤◌, ◌==◌, true, false, cond, List, [], ◌∷◌, ◌++◌, map, filter_map, drop, length, Some, refl, ap, sym, ◌∙◌, subst, arith, length-drop}
use Rattle.std.specs.Prelude.{is_none}
use Rattle.std.specs.List.{AllByRecursion, AllZip, cons_option}
use Rattle.std.proofs.lemmas.Simd.{map-map}
use Rattle.std.proofs.lemmas.Bool.{eq-eqb, eqb-true, false_from_ne_true}
use Rattle.rely_num.specs.OpenMarks.{AreOpenMarksFrom}
use Rattle.rely_num.specs.Texts.{Bytes}
use Rattle.rely_num.specs.declared.span.Span.{Span}
use Rattle.rely_hard.specs.Valid.{IsHardware}
use Rattle.rely_hard.specs.declared.hardware.Hardware.{Hardware}
use Rattle.rely_kernel.specs.Choice.{IsChoice, filled, setting_of}
use Rattle.rely_kernel.specs.Setting.{IsClosed, kinds_of, open_mark}
use Rattle.rely_kernel.specs.declared.kernel.Kernel.{Kernel}
use Rattle.rely_kernel.specs.declared.kernel.Linked.{Linked}
use Rattle.rely_kernel.specs.declared.kernel.Site.{Site}
use Rattle.rely_kernel.specs.declared.kernel.Slot.{Slot}
use Rattle.rely_kernel.specs.declared.kernel.Slot.TheVariants.{Named, Free}
use Rattle.rely_kernel.specs.declared.kernel.Var.{Var}
use Rattle.rely_tree.specs.Marks.{block_marks, decls_marks, function_marks}
use Rattle.rely_tree.specs.Tree.{FuncTree, IdentTree, NamedTree}
use Rattle.rely_parser.specs.State.{word_at}
use Rattle.rely_parser.proofs.LimitsUnits.{parsed_unit}
use Rattle.rely_parser.proofs.Verdicts.{spelled_of}
use Rattle.rely_resolve.specs.Faults.{memory_faults, named_faults}
use Rattle.rely_resolve.specs.Kernels.{Done, kernel_of, var_of}
use Rattle.rely_resolve.specs.Linked.{nothing_done}
use Rattle.rely_resolve.specs.Names.{kind_names, memory_names, place_of}
use Rattle.rely_resolve.specs.Reached.{IsReached, done_with}
use Rattle.rely_resolve.proofs.Reached.{is_linked}
use Rattle.rely_resolve.proofs.ValidLinked.{each_at, linked_on, linked_valid}
use Rattle.rely_resolve.proofs.ValidNames.{both_empty, both_hold, each_holds}
use Rattle.chisel_rewrite.specs.Alike.{IsLike, IsNamedBy, IsSetBy, shape_of}
use Rattle.chisel_rewrite.specs.Namings.{IsListed, kind_namings, mark_of, memory_namings, namings, open_sites, open_vars}
use Rattle.chisel_rewrite.specs.Texts.{rewritten}
use Rattle.chisel_rewrite.specs.declared.naming.Naming.{Naming}
use Rattle.chisel_rewrite.specs.declared.naming.Naming.TheVariants.{Kind, Memory}
use Rattle.chisel_rewrite.proofs.Places.{all_chosen, options_listed, sites_chosen, sites_counted}
use Rattle.chisel_rewritten_source.specs.Tokens.{named_tokens}
use Rattle.chisel_rewrite.proofs.Zips.{zip_append}
use Rattle.chisel_rewritten_source.proofs.Sources.{all_mapped, kernel_marks_are_tokens, kernel_reread_as_named}
use Rattle.chisel_rewritten_source.specs.Meanings.{KernelMeansAsNamed}
use Rattle.chisel_rewritten_source.specs.Trees.{Renaming, by_names, moved_span, naming_at, renamed_unit}
use Rattle.chisel_rewritten_source.proofs.Chosen.{IsFound, all_open, away_open, kind_place, memory_place, slots_closed, slots_filled}
use Rattle.chisel_rewritten_source.proofs.Fitting.{Away, Rising, all_map, each_of_unit, rising_behind, sites_marked, vars_marked}
use Rattle.chisel_rewritten_source.proofs.FunctionNames.{done_hold, renamed_names, those_hold, unit_names}
use Rattle.chisel_rewritten_source.proofs.NoFaults.{Opens, SiteOpens, VarOpens}
use Rattle.chisel_rewritten_source.proofs.Relinked.{unit_renamed}
use Rattle.chisel_rewritten_source.proofs.Reparsed.{all_passed, kernel_reparsed_as_named}
use Rattle.chisel_rewritten_source.proofs.SameKernel.{AreRenamed, IsRenamed, more, none, renamed_site, renamed_slot, renamed_var}

all_both : {X : Type 0} (P Q : X → Type 0) (xs : List X) → AllByRecursion P xs → AllByRecursion Q xs → AllByRecursion (λ x. P x × Q x) xs
all_both P Q [] p q = tt
all_both P Q (x ∷ xs) p q = ((p.0, q.0), all_both P Q xs p.1 q.1)

-- ---- each naming is found at its mark

rising_open : (text : Bytes) (place : ℕ) (marks : List Span) → AreOpenMarksFrom text place marks → Rising place marks
rising_open text place [] marked = tt
rising_open text place (m ∷ marks) marked = let one = marked.1.one_byte in (marked.0, omega (arith, one), rising_open text m.to marks marked.2)

all_found : (place : ℕ) (ns : List Naming) → Rising place (map mark_of ns) → AllByRecursion (λ n. naming_at ns (mark_of n).from ≡ Some n) ns
all_found place [] rising = tt
all_found place (n ∷ ns) rising =
    let full = rising.1 in
    let later = all_mapped (λ m. (mark_of n).to ≤ m.from) mark_of ns (rising_behind (mark_of n).to (map mark_of ns) rising.2) in
    let here : naming_at (n ∷ ns) (mark_of n).from ≡ Some n = ap (λ b. cond b (Some n) (naming_at ns (mark_of n).from)) (eq-eqb (mark_of n).from (mark_of n).from refl) in (
      here,
      all_map (λ m. ((mark_of n).to ≤ (mark_of m).from) × (naming_at ns (mark_of m).from ≡ Some m)) (λ m. naming_at (n ∷ ns) (mark_of m).from ≡ Some m) (elsewhere full) ns
          (all_both (λ m. (mark_of n).to ≤ (mark_of m).from) (λ m. naming_at ns (mark_of m).from ≡ Some m) ns later (all_found (mark_of n).to ns rising.2)),
    )
  where
    elsewhere : (mark_of n).from < (mark_of n).to → (m : Naming) → ((mark_of n).to ≤ (mark_of m).from) × (naming_at ns (mark_of m).from ≡ Some m) → naming_at (n ∷ ns) (mark_of m).from ≡ Some m
    elsewhere full m is =
        let behind = is.0 in
        let other : ((mark_of n).from == (mark_of m).from) ≡ false =
        false_from_ne_true _ (λ same. let e = eqb-true (mark_of n).from (mark_of m).from same in absurd (omega (arith, e, full, behind))) in
        ap (λ b. cond b (Some n) (naming_at ns (mark_of m).from)) other ∙ is.1

-- ---- the function itself

module _ (h : Hardware) (hard : IsHardware h) (k : Kernel) (choice : List ℕ) (is : IsChoice k h choice) (rising : Rising 0 (map mark_of (namings k choice))) where
  abbrev ns : List Naming
  ns = namings k choice

  abbrev behind : List ℕ
  behind = drop (length (open_sites k.sites)) choice

  finds : AllByRecursion (IsFound h ns) (memory_namings k.vars behind) × AllByRecursion (IsFound h ns) (kind_namings k.sites choice)
  finds =
      each_holds (IsFound h ns) (memory_namings k.vars behind) (kind_namings k.sites choice)
      (all_both (λ n. naming_at ns (mark_of n).from ≡ Some n) (IsListed h) ns (all_found 0 ns rising) (options_listed k h choice is))

  vars_chosen : length (open_vars k.vars) ≤ length behind
  vars_chosen =
      let many = all_chosen k h choice is in
      let left = length-drop (length (open_sites k.sites)) choice in
      omega (arith, many, left)

  listed_kind : (s : Site) (i : IdentTree) → is_none (place_of i.text (kind_names (kinds_of h s.op))) ≡ false → named_faults (kinds_of h s.op) (NamedTree i) ≡ []
  listed_kind s i e = rw e refl

  listed_memory : (v : Var) (i : IdentTree) → is_none (place_of i.text (memory_names h.memories)) ≡ false → memory_faults h.memories (NamedTree i) ≡ []
  listed_memory v i e = rw e refl

  kinds_filled : map (λ s. renamed_slot (by_names h ns) (kind_names (kinds_of h s.op)) s.kind s.mark) k.sites ≡ map Named (setting_of k choice).sites
  kinds_filled =
      slots_filled h ns (λ (s : Site). s.kind) (λ s. s.mark) (λ s o. Kind s.mark s.op o) (λ s. kind_names (kinds_of h s.op)) (λ s. named_faults (kinds_of h s.op)) (λ s o. refl)
      (λ s o small. kind_place h hard s.mark s.op o small) (λ s span. refl) listed_kind k.sites choice (sites_chosen k h choice is) finds.1

  memories_filled : map (λ v. renamed_slot (by_names h ns) (memory_names h.memories) v.memory v.mark) k.vars ≡ map Named (setting_of k choice).memories
  memories_filled =
      slots_filled h ns (λ (v : Var). v.memory) (λ v. v.mark) (λ v o. Memory v.mark o) (λ v. memory_names h.memories) (λ v. memory_faults h.memories) (λ v o. refl)
      (λ v o small. memory_place h hard v.mark o small) (λ v span. refl) listed_memory k.vars behind vars_chosen finds.0
      ∙ ap (λ n. map Named (filled (map (λ v. v.memory) k.vars) (drop n choice))) (sites_counted k)

  sites_open : AllByRecursion (SiteOpens h (by_names h ns)) k.sites
  sites_open =
      all_open h ns (λ (s : Site). s.kind) (λ s. s.mark) (λ s o. Kind s.mark s.op o) (λ s. kind_names (kinds_of h s.op)) (λ s. named_faults (kinds_of h s.op)) (λ s o. refl)
      (λ s o small. kind_place h hard s.mark s.op o small) (λ s span. refl) listed_kind k.sites choice (sites_chosen k h choice is) finds.1

  vars_open : AllByRecursion (VarOpens h (by_names h ns)) k.vars
  vars_open =
      all_open h ns (λ (v : Var). v.memory) (λ v. v.mark) (λ v o. Memory v.mark o) (λ v. memory_names h.memories) (λ v. memory_faults h.memories) (λ v o. refl)
      (λ v o small. memory_place h hard v.mark o small) (λ v span. refl) listed_memory k.vars behind vars_chosen finds.0

  set_by : (other : Kernel) → IsRenamed h (by_names h ns) k other → IsSetBy (setting_of k choice) k other
  set_by other same = record {
    shapes = ap (map shape_of) same.vars ∙ map-map shape_of (renamed_var h (by_names h ns)) k.vars;
    memories = ap (map (λ (v : Var). v.memory)) same.vars ∙ (map-map (λ (v : Var). v.memory) (renamed_var h (by_names h ns)) k.vars ∙ memories_filled);
    ops = ap (map (λ (s : Site). s.op)) same.sites ∙ map-map (λ (s : Site). s.op) (renamed_site h (by_names h ns)) k.sites;
    kinds = ap (map (λ (s : Site). s.kind)) same.sites ∙ (map-map (λ (s : Site). s.kind) (renamed_site h (by_names h ns)) k.sites ∙ kinds_filled);
    calls = same.calls;
    text = same.text;
    claims = same.claims;
  }

-- ---- the functions that it reaches

like : (h : Hardware) (names : List Naming) (k other : Kernel) → IsClosed k → IsRenamed h (by_names h names) k other → IsLike k other
like h names k other closed same =
    let (vars, sites) = both_empty (filter_map (λ (v : Var). open_mark v.memory v.mark) k.vars) (filter_map (λ (s : Site). open_mark s.kind s.mark) k.sites) closed in
    record {
      shapes = ap (map shape_of) same.vars ∙ map-map shape_of (renamed_var h (by_names h names)) k.vars;
      memories = ap (map (λ (v : Var). v.memory)) same.vars ∙ (map-map (λ (v : Var). v.memory) (renamed_var h (by_names h names)) k.vars
          ∙ slots_closed h names (λ (v : Var). v.memory) (λ v. v.mark) (λ v. memory_names h.memories) k.vars vars);
      ops = ap (map (λ (s : Site). s.op)) same.sites ∙ map-map (λ (s : Site). s.op) (renamed_site h (by_names h names)) k.sites;
      kinds = ap (map (λ (s : Site). s.kind)) same.sites ∙ (map-map (λ (s : Site). s.kind) (renamed_site h (by_names h names)) k.sites
          ∙ slots_closed h names (λ (s : Site). s.kind) (λ s. s.mark) (λ s. kind_names (kinds_of h s.op)) k.sites sites);
      calls = same.calls;
      text = same.text;
      claims = same.claims;
    }

all_like : (h : Hardware) (names : List Naming) (ks others : List Kernel) → AllByRecursion IsClosed ks → AreRenamed h (by_names h names) ks others → AllZip IsLike ks others
all_like h names [] [] closed none = tt
all_like h names [] (other ∷ others) closed all = elim all [ ]
all_like h names (k ∷ ks) [] closed all = elim all [ ]
all_like h names (k ∷ ks) (other ∷ others) closed (more is all) = (like h names k other closed.0 is, all_like h names ks others closed.1 all)

-- ---- closed kernels

-- a place is named
abbrev IsName : Slot → Type 0
IsName (Named n) = Unit {0}
IsName Free = ⊥

module _ {X : Type 0} (slot : X → Slot) (mark : X → Span) where
  closed_named : (xs : List X) → filter_map (λ x. open_mark (slot x) (mark x)) xs ≡ [] → AllByRecursion IsName (map slot xs)
  closed_named [] e = tt
  closed_named (x ∷ xs) e = one (slot x) (closed_named xs) e
    where
      one : (s : Slot) → (filter_map (λ x. open_mark (slot x) (mark x)) xs ≡ [] → AllByRecursion IsName (map slot xs))
          → cons_option (open_mark s (mark x)) (filter_map (λ x. open_mark (slot x) (mark x)) xs) ≡ [] → IsName s × AllByRecursion IsName (map slot xs)
      one (Named n) rest e = (tt, rest e)
      one Free rest e = absurd (cc)

  named_closed : (xs : List X) → AllByRecursion IsName (map slot xs) → filter_map (λ x. open_mark (slot x) (mark x)) xs ≡ []
  named_closed [] all = refl
  named_closed (x ∷ xs) all = one (slot x) all.0 (named_closed xs all.1)
    where
      one : (s : Slot) → IsName s → filter_map (λ x. open_mark (slot x) (mark x)) xs ≡ [] → cons_option (open_mark s (mark x)) (filter_map (λ x. open_mark (slot x) (mark x)) xs) ≡ []
      one (Named n) is rest = rest
      one Free is rest = absurd is

all_named : (os : List ℕ) → AllByRecursion IsName (map Named os)
all_named [] = tt
all_named (o ∷ os) = (tt, all_named os)

closed_by : (other : Kernel) → AllByRecursion IsName (map (λ v. v.memory) other.vars) → AllByRecursion IsName (map (λ s. s.kind) other.sites) → IsClosed other
closed_by other vars sites =
    ap (λ ms. ms ++ filter_map (λ (s : Site). open_mark s.kind s.mark) other.sites) (named_closed (λ (v : Var). v.memory) (λ v. v.mark) other.vars vars)
    ∙ named_closed (λ (s : Site). s.kind) (λ s. s.mark) other.sites sites

set_closed : (h : Hardware) (k other : Kernel) (choice : List ℕ) → IsSetBy (setting_of k choice) k other → IsClosed other
set_closed h k other choice is =
    closed_by other (subst (AllByRecursion IsName) (sym is.memories) (all_named (setting_of k choice).memories)) (subst (AllByRecursion IsName) (sym is.kinds) (all_named (setting_of k choice).sites))

like_closed : (k other : Kernel) → IsClosed k → IsLike k other → IsClosed other
like_closed k other closed is =
    let (vars, sites) = both_empty (filter_map (λ (v : Var). open_mark v.memory v.mark) k.vars) (filter_map (λ (s : Site). open_mark s.kind s.mark) k.sites) closed in
    closed_by other (subst (AllByRecursion IsName) (sym is.memories) (closed_named (λ (v : Var). v.memory) (λ v. v.mark) k.vars vars))
    (subst (AllByRecursion IsName) (sym is.kinds) (closed_named (λ (s : Site). s.kind) (λ s. s.mark) k.sites sites))

all_closed : (ks others : List Kernel) → AllByRecursion IsClosed ks → AllZip IsLike ks others → AllByRecursion IsClosed others
all_closed [] [] closed alike = tt
all_closed [] (other ∷ others) closed alike = absurd alike
all_closed (k ∷ ks) [] closed alike = tt
all_closed (k ∷ ks) (other ∷ others) closed alike = (like_closed k other closed.0 alike.0, all_closed ks others closed.1 alike.1)

-- ---- all functions of the source

module _ (h : Hardware) (hard : IsHardware h) (done : Done) (f : FuncTree) (choice : List ℕ) (is : IsChoice (kernel_of h done f) h choice)
    (rising : Rising 0 (map mark_of (namings (kernel_of h done f) choice))) where
  abbrev r : Renaming
  r = by_names h (namings (kernel_of h done f) choice)

  own_opens : Opens h r f
  own_opens =
      let vars = each_holds (VarOpens h r) (map (var_of h true) f.params) (map (var_of h false) f.locals) (vars_open h hard (kernel_of h done f) choice is rising) in
      record { sites = sites_open h hard (kernel_of h done f) choice is rising; params = vars.0; locals = vars.1 }

  away_opens : (g : FuncTree) → AllByRecursion (Away (namings (kernel_of h done f) choice)) (function_marks g) → Opens h r g
  away_opens g away =
      let names = namings (kernel_of h done f) choice in
      let kernel = kernel_of h done g in
      let parts = each_holds (Away names) (decls_marks g.params ++ decls_marks g.locals) (block_marks g.body) away in
      let vars : AllByRecursion (VarOpens h r) kernel.vars =
      away_open h names (λ (v : Var). v.memory) (λ v. v.mark) (λ v o. Memory v.mark o) (λ v. memory_names h.memories) (λ v. memory_faults h.memories) (λ v o. refl)
      (λ v o small. memory_place h hard v.mark o small) (λ v span. refl) (λ v i e. rw e refl) kernel.vars (subst (AllByRecursion (Away names)) (sym (vars_marked h done g choice)) parts.0) in
      let sites : AllByRecursion (SiteOpens h r) kernel.sites =
      away_open h names (λ (s : Site). s.kind) (λ s. s.mark) (λ s o. Kind s.mark s.op o) (λ s. kind_names (kinds_of h s.op)) (λ s. named_faults (kinds_of h s.op)) (λ s o. refl)
      (λ s o small. kind_place h hard s.mark s.op o small) (λ s span. refl) (λ s i e. rw e refl) kernel.sites (subst (AllByRecursion (Away names)) (sym (sites_marked h done g choice)) parts.1) in
      let both = each_holds (VarOpens h r) (map (var_of h true) g.params) (map (var_of h false) g.locals) vars in
      record { sites = sites; params = both.0; locals = both.1 }

pub kernel_means_as_named : KernelMeansAsNamed
kernel_means_as_named text tokens u h name l choice hard read parsed answer closed is few =
    let spelled = spelled_of text tokens u parsed in
    let linked = is_linked u name h l answer in
    let done = done_with h nothing_done linked.reached in
    let f = linked.function in
    let same : l.kernel ≡ kernel_of h done f = ap (λ (l : Linked). l.kernel) linked.linked in
    let chosen : IsChoice (kernel_of h done f) h choice = subst (λ k. IsChoice k h choice) same is in
    let marks = kernel_marks_are_tokens text tokens u h name l choice read.1 spelled linked is in
    let rising : Rising 0 (map mark_of (namings l.kernel choice)) = rising_open text 0 (map mark_of (namings l.kernel choice)) marks.marks in
    let risen : Rising 0 (map mark_of (namings (kernel_of h done f) choice)) = subst (λ k. Rising 0 (map mark_of (namings k choice))) same rising in
    let opens : AllByRecursion (Opens h (by_names h (namings l.kernel choice))) u.functions =
    subst (λ k. AllByRecursion (Opens h (by_names h (namings k choice))) u.functions) (sym same)
    (each_of_unit text tokens u h done f linked.place choice (Opens h (by_names h (namings (kernel_of h done f) choice))) read.1 spelled chosen linked.stands
    (λ _. own_opens h hard done f choice chosen risen) (away_opens h hard done f choice chosen risen)) in
    let found = unit_renamed h (by_names h (namings l.kernel choice)) u name l opens answer in
    let again = kernel_reread_as_named text tokens u h name l choice hard read spelled linked is few in
    let reparsed = kernel_reparsed_as_named text tokens u h name l choice hard read spelled linked is few in
    let unit = parsed_unit (rewritten text l.kernel h choice) (named_tokens h 0 (namings l.kernel choice) tokens) (renamed_unit (by_names h (namings l.kernel choice)) u) again.reading.1 (reparsed.parsed parsed) in
    let named : IsNamedBy choice l found.other = record {
      kernel = set_by h hard l.kernel choice is rising found.other.kernel found.is.kernel;
      inner = all_like h (namings l.kernel choice) l.inner found.other.inner closed found.is.inner;
    } in
    let new = rewritten text l.kernel h choice in
    let passed = all_passed text tokens u h name l choice spelled hard read linked is few in
    let SameThere : Span → Type 0 = λ span. word_at new (moved_span h (namings l.kernel choice) span) ≡ word_at text span in
    let said = unit_names h (namings l.kernel choice) spelled.says (word_at new) text spelled.spells passed.fates spelled.agree in
    let those = those_hold (λ g. SameThere g.name.span) (IsReached u.functions linked.place) linked.in_order said in
    let inner : AllByRecursion (λ k. SameThere k.name) l.inner =
    subst (AllByRecursion (λ (k : Kernel). SameThere k.name)) (sym (ap (λ (l : Linked). l.inner) linked.linked)) (done_hold SameThere h nothing_done linked.reached tt those) in
    let main : SameThere l.kernel.name = subst (λ (k : Kernel). SameThere k.name) (sym same) (each_at (λ g. SameThere g.name.span) u.functions linked.place f said linked.stands) in
    let all_names = zip_append (λ k like. word_at new like.name ≡ word_at text k.name) l.inner found.other.inner l.kernel found.other.kernel
    (renamed_names (word_at new) text h (by_names h (namings l.kernel choice)) l.inner found.other.inner found.is.inner inner) (ap (word_at new) found.is.kernel.name ∙ main) in
    record {
      names = all_names;
      other = found.other;
      means = found.answer;
      named = named;
      linked = linked_valid (renamed_unit (by_names h (namings l.kernel choice)) u) name h found.other hard unit found.answer;
      on = linked_on (renamed_unit (by_names h (namings l.kernel choice)) u) name h found.other hard unit found.answer;
      closed = both_hold IsClosed found.other.inner (found.other.kernel ∷ []) (all_closed l.inner found.other.inner closed named.inner)
          (set_closed h l.kernel found.other.kernel choice named.kernel, tt);
    }
