-- Which names a work opens, and the contents over which it was done.
use Rattle.std.proofs.Common.{◌≡◌, ℕ, Bool, true, false, nat_lt, List, [], ◌∷◌, ◌++◌, length, Option, Some, None, Result, Ok, Err, refl, sym, ap, subst, ◌∙◌, append-nil, Bor, inl, inr}
use Rattle.std.specs.Prelude.{if◌then◌else◌}
use Rattle.rely_num.specs.Texts.{Bytes}
use Rattle.rely_kernel.specs.declared.kernel.Kernel.{Kernel}
use Rattle.chisel_outside.specs.Outside.{Log, Told}
use Rattle.chisel_lines.specs.declared.fault.Fault.{Fault}
use Rattle.chisel_lines.specs.declared.fault.Fault.TheVariants as fault
use Rattle.chisel_lines.specs.Faults.{NoForm, Stop, TooLong}
use Rattle.chisel_lines.specs.declared.refusal.Refusal.{Refusal}
use Rattle.chisel_files.specs.Contents.{Agree, FirstOf, Gained, is_marked, names_of}
use Rattle.rely_inputs.specs.Samples.{samples_of}
use Rattle.rely_kernel.specs.Machine.{functions}
use Rattle.chisel_source.specs.Meaning.{meaning, ready_by, unit_in}
use Rattle.chisel_source.specs.Open.{open_place_in}
use Rattle.chisel_files.specs.Files.{file, longest, longest_inputs, within}
use Rattle.chisel_files.specs.Front.{closed_work, hardware_work, kept_with, marks_in, meaning_in, meant_work, ready_work, source_work, starts_in, starts_work, unless_open}
use Rattle.chisel_files.specs.Refused.{input_refusal, meaning_refusal, source_refusal, stopped_by}
use Rattle.chisel_files.specs.Works.{Comes, Content, Did, Done, FailsAt, Open, OpensOf, Work, found, opened, ◌then◌}

-- ---- exactly these names, up to an end

-- it opens these names in order and no more, unless it stops before
abbrev pub Exactly : {A : Type 0} → List Bytes → Work A → Type 0
Exactly [] (Done x) = Unit {0}
Exactly (n ∷ ns) (Done (Ok a)) = ⊥
Exactly (n ∷ ns) (Done (Err s)) = Unit {0}
Exactly [] (Open name next) = ⊥
Exactly (n ∷ ns) (Open name next) = (name ≡ n) × ((c : Content) → Exactly ns (next c))

stop_exactly : (A : Type 0) (ns : List Bytes) (s : Stop) → Exactly {A = A} ns (Done (Err s))
stop_exactly A [] s = tt
stop_exactly A (n ∷ ns) s = tt

pub exactly_then : {A B : Type 0} (ns ms : List Bytes) (w : Work A) (f : A → Work B) → Exactly ns w → ((a : A) → Exactly ms (f a)) → Exactly (ns ++ ms) (w then f)
exactly_then [] ms (Done (Ok a)) f e k = k a
exactly_then {B = B} [] ms (Done (Err s)) f e k = stop_exactly B ms s
exactly_then (n ∷ ns) ms (Done (Ok a)) f e k = absurd e
exactly_then (n ∷ ns) ms (Done (Err s)) f e k = tt
exactly_then [] ms (Open name next) f e k = absurd e
exactly_then (n ∷ ns) ms (Open name next) f e k = (e.0, λ c. exactly_then ns ms (next c) f (e.1 c) k)

pub exactly_opens : {A : Type 0} (ns : List Bytes) (w : Work A) → Exactly ns w → OpensOf ns w
exactly_opens ns (Done x) e = tt
exactly_opens [] (Open name next) e = e
exactly_opens (n ∷ ns) (Open name next) e = (e.0, λ c. exactly_opens ns (next c) (e.1 c))

pub file_exactly : (name : Bytes) (limit : ℕ) → Exactly (name ∷ []) (file name limit)
file_exactly name limit = (refl, λ c. tt)

meant_exactly : (text hardware function : Bytes) → Exactly (hardware ∷ []) (meant_work text hardware function)
meant_exactly text hardware function =
    exactly_then [] (hardware ∷ []) (Done (stopped_by source_refusal (unit_in text))) (hardware_work hardware function) tt (λ unit.
    exactly_then (hardware ∷ []) [] (file hardware longest) (meaning_in unit function) (file_exactly hardware longest) (λ bytes. tt))

pub ready_exactly : (source hardware function : Bytes) → Exactly (source ∷ hardware ∷ []) (ready_work source hardware function)
ready_exactly source hardware function =
    exactly_then (source ∷ []) (hardware ∷ []) (file source longest) (source_work hardware function) (file_exactly source longest) (λ text.
    exactly_then (hardware ∷ []) [] (meant_work text hardware function) (kept_with text) (meant_exactly text hardware function) (λ m. tt))

pub closed_exactly : (source hardware function : Bytes) → Exactly (source ∷ hardware ∷ []) (closed_work source hardware function)
closed_exactly source hardware function = exactly_then (source ∷ hardware ∷ []) [] (ready_work source hardware function) marks_in (ready_exactly source hardware function) (λ r. tt)

pub starts_exactly : (k : Kernel) (inputs : Bytes) → Exactly (inputs ∷ []) (starts_work k inputs)
starts_exactly k inputs = exactly_then (inputs ∷ []) [] (file inputs longest_inputs) (starts_in k) (file_exactly inputs longest_inputs) (λ bytes. tt)

-- ---- contents

-- what a shelf may hold, where it doesn't tell
abbrev content_of : Option Content → Content
content_of None = None
content_of (Some c) = c

abbrev some_contents : (Bytes → Option Content) → List Bytes → List Content
some_contents held [] = []
some_contents held (n ∷ ns) = content_of (held n) ∷ some_contents held ns

told_content : (o : Option Content) → Told o (λ h. h ≡ content_of o)
told_content None = tt
told_content (Some c) = refl

some_agree : (held : Bytes → Option Content) (ns : List Bytes) → Agree held ns (some_contents held ns)
some_agree held [] = tt
some_agree held (n ∷ ns) = (told_content (held n), some_agree held ns)

-- a device and memory have no part in it
abbrev pub IsSettled : {A : Type 0} → Result A Fault → Type 0
IsSettled (Ok a) = Unit {0}
IsSettled (Err fault.Words) = Unit {0}
IsSettled (Err (fault.Read name)) = ⊥
IsSettled (Err (fault.Length name limit)) = Unit {0}
IsSettled (Err (fault.Refused r)) = Unit {0}
IsSettled (Err fault.Memory) = ⊥

-- the work was done over these contents
pub record Contents {A : Type 0} (held : Bytes → Option Content) (names : List Bytes) (w : Work A) (pairs : Log) (r : Result A Fault) : Type 0 where
  pub got : List Content
  pub agree : Agree held names got
  pub first : FirstOf (names_of pairs) (opened w got)
  pub settled : IsSettled r → (names_of pairs ≡ opened w got) × Comes (found w got) r

memory_unsettled : {A : Type 0} (r : Result A Fault) → r ≡ Err fault.Memory → IsSettled r → ⊥
memory_unsettled r e s = subst IsSettled e s

pub contents_of : {A : Type 0} (held : Bytes → Option Content) (names : List Bytes) (w : Work A) (pairs : Log) (r : Result A Fault) → OpensOf names w → Did held w pairs r → Contents held names w pairs r
contents_of held names (Done x) pairs r opens d =
    record { got = some_contents held names; agree = some_agree held names; first = ([], append-nil (names_of pairs) ∙ ap names_of d.0); settled = λ s. (ap names_of d.0, d.1) }
contents_of held [] (Open name next) pairs r opens d = absurd opens
contents_of held (n ∷ ns) (Open name next) pairs r opens (inl m) =
    record {
      got = some_contents held (n ∷ ns);
      agree = some_agree held (n ∷ ns);
      first = (opened (Open name next) (some_contents held (n ∷ ns)), ap (λ p. names_of p ++ opened (Open name next) (some_contents held (n ∷ ns))) m.0);
      settled = λ s. absurd (memory_unsettled r m.1 s);
    }
contents_of held (n ∷ ns) (Open name next) pairs r opens (inr (inl f)) =
    record {
      got = some_contents held (n ∷ ns);
      agree = some_agree held (n ∷ ns);
      first = (opened (next (content_of (held n))) (some_contents held ns), ap (λ p. names_of p ++ opened (next (content_of (held n))) (some_contents held ns)) f.0);
      settled = λ s. absurd (subst IsSettled f.1.2 s);
    }
contents_of held (n ∷ ns) (Open name next) pairs r opens (inr (inr (bytes, rest, grew, told, d))) =
    let c = contents_of held ns (next (Some bytes)) rest r (opens.1 (Some bytes)) d in
    record {
      got = Some bytes ∷ c.got;
      agree = (subst (λ m. Told (held m) (λ h. h ≡ Some bytes)) opens.0 told, c.agree);
      first = (c.first.0, ap (λ p. names_of p ++ c.first.0) grew ∙ ap (λ l. name ∷ l) c.first.1);
      settled = λ s. (ap names_of grew ∙ ap (λ l. name ∷ l) (c.settled s).0, (c.settled s).1);
    }

-- ---- the log

none_gained : (ns : List Bytes) → Gained ns []
none_gained [] = tt
none_gained (n ∷ ns) = tt

pub gained : {A : Type 0} (held : Bytes → Option Content) (names : List Bytes) (w : Work A) (pairs : Log) (r : Result A Fault) → OpensOf names w → Did held w pairs r → Gained names pairs
gained held names (Done x) pairs r opens d = subst (Gained names) (sym d.0) (none_gained names)
gained held [] (Open name next) pairs r opens d = absurd opens
gained held (n ∷ ns) (Open name next) pairs r opens (inl m) = subst (Gained (n ∷ ns)) (sym m.0) tt
gained held (n ∷ ns) (Open name next) pairs r opens (inr (inl f)) = subst (Gained (n ∷ ns)) (sym f.0) (opens.0, refl)
gained held (n ∷ ns) (Open name next) pairs r opens (inr (inr (bytes, rest, grew, told, d))) =
    subst (Gained (n ∷ ns)) (sym grew) (opens.0, gained held ns (next (Some bytes)) rest r (opens.1 (Some bytes)) d)

-- a marked pair ends it
pub marked_fails : {A : Type 0} (held : Bytes → Option Content) (w : Work A) (pairs : Log) (r : Result A Fault) → Did held w pairs r → is_marked pairs ≡ true → (name : Bytes) × FailsAt name r
marked_fails held (Done x) pairs r d m = absurd (let none : is_marked pairs ≡ false = ap is_marked d.0 in let bad : true ≡ false = sym m ∙ none in cc)
marked_fails held (Open name next) pairs r (inl e) m = absurd (let none : is_marked pairs ≡ false = ap is_marked e.0 in let bad : true ≡ false = sym m ∙ none in cc)
marked_fails held (Open name next) pairs r (inr (inl f)) m = (name, f.1)
marked_fails held (Open name next) pairs r (inr (inr (bytes, rest, grew, told, d))) m = marked_fails held (next (Some bytes)) rest r d (sym (ap is_marked grew) ∙ m)

-- and a failed fetch marks the last pair
pub fails_last : {A : Type 0} (held : Bytes → Option Content) (w : Work A) (pairs : Log) (r : Result A Fault) (name : Bytes) → Did held w pairs r → FailsAt name r → (front : Log) × (pairs ≡ front ++ (name, true) ∷ [])
fails_last held (Done x) pairs r name d f = absurd (subst (Comes x) f.2 d.1)
fails_last held (Open other next) pairs r name (inl m) f = absurd (let bad = sym m.1 ∙ f.2 in cc)
fails_last held (Open other next) pairs r name (inr (inl g)) f = ([], g.0 ∙ ap (λ n. (n, true) ∷ []) (other_name (g.1.0) f.0 g.1.1 f.1 (sym g.1.2 ∙ f.2)))
  where
    other_name : {B : Type 0} (v w : Bor Bytes) → v.now ≡ other → w.now ≡ name → ◌≡◌ {A = Result B Fault} (Err (fault.Read v)) (Err (fault.Read w)) → other ≡ name
    other_name v w a b e = let same : v ≡ w = cc in sym a ∙ ap (λ x. x.now) same ∙ b
fails_last held (Open other next) pairs r name (inr (inr (bytes, rest, grew, told, d))) f =
    let l = fails_last held (next (Some bytes)) rest r name d f in ((other, false) ∷ l.0, grew ∙ ap (λ p. (other, false) ∷ p) l.1)

-- ---- words that are in a form

-- the work never stops for words of no form
abbrev pub Formed : {A : Type 0} → Work A → Type 0
Formed (Done x) = x ≡ Err NoForm → ⊥
Formed (Open name next) = (c : Content) → Formed (next c)

pub formed_then : {A B : Type 0} (w : Work A) (f : A → Work B) → Formed w → ((a : A) → Formed (f a)) → Formed (w then f)
formed_then (Done (Ok a)) f h k = k a
formed_then (Done (Err s)) f h k = λ e. h (let same : s ≡ NoForm = cc in ap Err same)
formed_then (Open name next) f h k = λ c. formed_then (next c) f (h c) k

pub formed_within : (name : Bytes) (limit : ℕ) (c : Content) → within name limit c ≡ Err NoForm → ⊥
formed_within name limit None e = cc
formed_within name limit (Some bytes) e = by_test (nat_lt limit (length bytes)) e
  where
    by_test : (b : Bool) → (if b then Err (TooLong name limit) else Ok bytes) ≡ Err NoForm → ⊥
    by_test true e = cc
    by_test false e = cc

pub formed_refused : {A E : Type 0} (refusal : E → Option Refusal) (x : Result A E) → stopped_by refusal x ≡ Err NoForm → ⊥
formed_refused refusal (Ok a) e = cc
formed_refused refusal (Err f) e = cc

formed_open : {A : Type 0} (o : Option ℕ) (a : A) → unless_open o a ≡ Err NoForm → ⊥
formed_open None a e = cc
formed_open (Some place) a e = cc

formed_ok : {A : Type 0} (a : A) → ◌≡◌ {A = Result A Stop} (Ok a) (Err NoForm) → ⊥
formed_ok a e = cc

meant_formed : (text hardware function : Bytes) → Formed (meant_work text hardware function)
meant_formed text hardware function =
    formed_then (Done (stopped_by source_refusal (unit_in text))) (hardware_work hardware function) (formed_refused source_refusal (unit_in text)) (λ unit.
    formed_then (file hardware longest) (meaning_in unit function) (formed_within hardware longest) (λ bytes. formed_refused meaning_refusal (meaning unit function bytes)))

pub ready_formed : (source hardware function : Bytes) → Formed (ready_work source hardware function)
ready_formed source hardware function =
    formed_then (file source longest) (source_work hardware function) (formed_within source longest) (λ text.
    formed_then (meant_work text hardware function) (kept_with text) (meant_formed text hardware function) (λ m. formed_ok (ready_by text m)))

pub closed_formed : (source hardware function : Bytes) → Formed (closed_work source hardware function)
closed_formed source hardware function =
    formed_then (ready_work source hardware function) marks_in (ready_formed source hardware function) (λ r. formed_open (open_place_in (functions r.linked)) r)

pub starts_formed : (k : Kernel) (inputs : Bytes) → Formed (starts_work k inputs)
starts_formed k inputs = formed_then (file inputs longest_inputs) (starts_in k) (formed_within inputs longest_inputs) (λ bytes. formed_refused input_refusal (samples_of k bytes))

pub never_words : {A : Type 0} (held : Bytes → Option Content) (w : Work A) (pairs : Log) (r : Result A Fault) → Formed w → Did held w pairs r → r ≡ Err fault.Words → ⊥
never_words held (Done x) pairs r h d e = h (subst (Comes x) e d.1)
never_words held (Open name next) pairs r h (inl m) e = absurd (let bad = sym m.1 ∙ e in cc)
never_words held (Open name next) pairs r h (inr (inl f)) e = absurd (let bad = sym f.1.2 ∙ e in cc)
never_words held (Open name next) pairs r h (inr (inr (bytes, rest, grew, told, d))) e = never_words held (next (Some bytes)) rest r (h (Some bytes)) d e
