-- The tree of the rewritten source.
use Rattle.std.proofs.Common.{◌≡◌, List, [], ◌∷◌, map, Ok, Err, refl, ap, sym, ◌∙◌, subst, ℕ, ◌≤◌, length}
use Rattle.rely_num.specs.Texts.{Bytes}
use Rattle.rely_hard.specs.Valid.{IsHardware}
use Rattle.rely_hard.specs.declared.hardware.Hardware.{Hardware}
use Rattle.rely_kernel.specs.Choice.{IsChoice}
use Rattle.rely_kernel.specs.declared.kernel.Linked.{Linked}
use Rattle.rely_lexer.specs.Readings.{IsReading}
use Rattle.rely_resolve.specs.Reached.{IsLinkedBy}
use Rattle.rely_num.specs.declared.word.Word.TheVariants as word
use Rattle.rely_lexer.specs.declared.token.Token.{Token}
use Rattle.rely_tree.specs.Tree.{UnitTree}
use Rattle.rely_parser.specs.declared.fault.ParseFault.TheVariants as fault
use Rattle.rely_parser.specs.Counts.{nothing, AllWithin}
use Rattle.rely_parser.specs.Productions.{Agree, Func, OneOrMore, Spelled}
use Rattle.rely_parser.specs.State.{Reading, word_at}
use Rattle.rely_parser.specs.Units.{unit_of}
use Rattle.rely_parser.proofs.CountingSources.{Limited, limited}
use Rattle.rely_parser.proofs.Verdicts.{not-crowded, not-deep, within-at}
use Rattle.rely_parser.proofs.Wholes.{Gives, gives}
use Rattle.chisel_rewrite.specs.Namings.{namings}
use Rattle.chisel_rewrite.specs.Texts.{rewritten}
use Rattle.chisel_rewritten_source.specs.Tokens.{named_tokens}
use Rattle.chisel_rewritten_source.proofs.Sources.{kernel_marks_are_tokens, kernel_reread_as_named}
use Rattle.chisel_rewritten_source.specs.Trees.{KernelReparsedAsNamed, by_names, renamed_func, renamed_unit}
use Rattle.chisel_rewritten_source.proofs.CarriedUnits.{unit_as}
use Rattle.chisel_rewritten_source.proofs.Fitting.{unit_fits}
use Rattle.chisel_rewritten_source.proofs.Passed.{Passed, all_fresh, all_open, becomes_all, from_place, within_all}

-- tokens that spell a tree within the limits are read as the tree
read_within : (text : Bytes) (tokens : List Token) (u : UnitTree) → Spelled text tokens u → AllWithin nothing tokens → unit_of text tokens ≡ Ok u
read_within text tokens u spelled few = one (unit_of text tokens) (gives text tokens u spelled) (limited text tokens)
  where
    one : (r : Reading UnitTree) → Gives u r → Limited text tokens r → r ≡ Ok u
    one (Ok v) is limits = ap Ok is
    one (Err (fault.Expected p)) is limits = absurd is
    one (Err (fault.Deep p)) is limits = absurd (not-deep _ (within-at nothing limits.front limits.token limits.rest (subst (AllWithin nothing) limits.split few)) limits.over)
    one (Err (fault.Many p)) is limits = absurd (not-crowded _ (within-at nothing limits.front limits.token limits.rest (subst (AllWithin nothing) limits.split few)) limits.over)
    one (Err fault.Memory) is limits = absurd limits

agree_self : (text : Bytes) (tokens : List Token) → Agree text (word_at text) tokens
agree_self text [] = tt
agree_self text (t ∷ ts) = (refl, agree_self text ts)

-- what becomes of each token
pub all_passed : (text : Bytes) (tokens : List Token) (u : UnitTree) (h : Hardware) (name : Bytes) (l : Linked) (choice : List ℕ) (spelled : Spelled text tokens u)
    → IsHardware h → IsReading text (Ok tokens) → IsLinkedBy h u name l → IsChoice l.kernel h choice → length (rewritten text l.kernel h choice) ≤ 65536
    → Passed h text (rewritten text l.kernel h choice) (namings l.kernel choice) spelled.says 0 (namings l.kernel choice) tokens
all_passed text tokens u h name l choice spelled hard read linked is few =
    let ns = namings l.kernel choice in
    let new = rewritten text l.kernel h choice in
    let again = kernel_reread_as_named text tokens u h name l choice hard read spelled linked is few in
    let marks = kernel_marks_are_tokens text tokens u h name l choice read.1 spelled linked is in
    from_place h text new ns spelled.says ns 0 0 0 0 tokens marks.marks (all_open tokens ns marks.are_tokens) read.1 spelled.agree again.reading.1 again.says
    (all_fresh h text new ns spelled.says tokens)

pub kernel_reparsed_as_named : KernelReparsedAsNamed
kernel_reparsed_as_named text tokens u h name l choice hard read spelled linked is few =
    let ns = namings l.kernel choice in
    let new = rewritten text l.kernel h choice in
    let passed = all_passed text tokens u h name l choice spelled hard read linked is few in
    let carried = unit_as h ns spelled.says (word_at new) spelled.spells passed.fates (unit_fits text tokens u h name l choice read.1 spelled linked is) [] in
    let tokens_are : carried.new ≡ named_tokens h 0 ns tokens = becomes_all h text new ns spelled.says carried.becomes refl ∙ sym passed.tokens in
    let spells : Spelled new (named_tokens h 0 ns tokens) (renamed_unit (by_names h ns) u) = record {
      says = word_at new;
      agree = agree_self new (named_tokens h 0 ns tokens);
      spells = subst (λ ts. OneOrMore word.Fn (Func (word_at new)) ts [] (map (renamed_func (by_names h ns)) u.functions)) tokens_are carried.spells;
    } in
    let within : AllWithin nothing tokens → AllWithin nothing (named_tokens h 0 ns tokens) =
    λ few. subst (AllWithin nothing) tokens_are (within_all h ns carried.becomes (λ c all. all) nothing few) in
    record {
      spelled = spells;
      within = within;
      parsed = λ parsed. read_within new (named_tokens h 0 ns tokens) (renamed_unit (by_names h ns) u) spells (within (subst (Limited text tokens) parsed (limited text tokens)));
    }
