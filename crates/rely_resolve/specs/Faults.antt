-- What is wrong with the names of a function: all faults, and the one that is answered.
use Rattle.std.specs.Prelude.{ℕ, ◌+◌, Bool, not, ◌&&◌, ◌||◌, ◌==◌, nat_le, nat_lt, List, [], ◌∷◌, ◌++◌, length, find, Option, Some, None, is_some, is_none, if◌then◌else◌}
use Rattle.std.specs.List.{list_any}
use Rattle.std.specs.Option.{option_map_or}
use Rattle.rely_num.specs.Ops.{is_op}
use Rattle.rely_num.specs.Texts.{Bytes, same_text, is_among}
use Rattle.rely_num.specs.declared.op.Op.{Op}
use Rattle.rely_num.specs.declared.span.Span.{Span}
use Rattle.rely_hard.specs.declared.hardware.Hardware.{Hardware}
use Rattle.rely_hard.specs.declared.hardware.KindSpec.{KindSpec}
use Rattle.rely_hard.specs.declared.hardware.MemSpec.{MemSpec}
use Rattle.rely_tree.specs.Tree.{IdentTree, KindTree, PlainTree, NamedTree, FreeTree, ExprTree, NumTree, NameTree, ElemTree, BinTree, StmtTree, SetTree, SetElemTree, IfTree, WhileTree, RepeatTree, ReturnTree, CallTree, Block, ended, also, DeclTree, SaidTree, FuncTree, variables}
use Rattle.rely_resolve.specs.Names.{place_of, names, memory_names, kind_names, is_array}
use Rattle.rely_resolve.specs.declared.fault.NameFault.{NameFault}
use Rattle.rely_resolve.specs.declared.fault.NameFault.TheVariants.{Twice, Function, ClaimParam, Unknown, NotArray, NotScalar, NoKind, NoMemory, Limit, NoCallee, Arity, ArrayParam, NoClaim, Memory}

-- ---- which fault is answered

-- where it stands
abbrev pub place : NameFault → ℕ
place (Twice span) = span.from
place Function = 0
place (ClaimParam span) = span.from
place (Unknown span) = span.from
place (NotArray span) = span.from
place (NotScalar span) = span.from
place (NoKind span) = span.from
place (NoMemory span) = span.from
place (Limit span) = span.from
place (NoCallee span) = span.from
place (Arity span) = span.from
place (ArrayParam span) = span.from
place (NoClaim span) = span.from
place Memory = 0

-- which comes first at one place
abbrev pub rank : NameFault → ℕ
rank (Twice span) = 0
rank Function = 1
rank (ClaimParam span) = 2
rank (Unknown span) = 3
rank (NotArray span) = 4
rank (NotScalar span) = 5
rank (NoKind span) = 6
rank (NoMemory span) = 7
rank (Limit span) = 8
rank (NoCallee span) = 9
rank (Arity span) = 10
rank (ArrayParam span) = 11
rank (NoClaim span) = 12
rank Memory = 13

-- one comes before another: it stands earlier, or at the same place with a lesser rank
abbrev pub is_before : NameFault → NameFault → Bool
is_before f g = nat_lt (place f) (place g) || (place f == place g && nat_lt (rank f) (rank g))

-- the first of two, the former where neither comes before the other
abbrev pub sooner : Option NameFault → NameFault → Option NameFault
sooner None f = Some f
sooner (Some first) f = Some (if is_before f first then f else first)

-- the first of a list, and of the one found before it
abbrev pub first_with : Option NameFault → List NameFault → Option NameFault
first_with first [] = first
first_with first (f ∷ fs) = first_with (sooner first f) fs

abbrev pub first_of : List NameFault → Option NameFault
first_of = first_with None

-- ---- names in expressions

abbrev pub when : Bool → NameFault → List NameFault
when b f = if b then f ∷ [] else []

-- a name without an index: it is that of a scalar
abbrev pub scalar_faults : List DeclTree → IdentTree → List NameFault
scalar_faults vs i = option_map_or (λ v. when (is_array vs v) (NotScalar i.span)) (place_of i.text (names vs)) (Unknown i.span ∷ [])

-- a name with an index: it is that of an array
abbrev pub array_faults : List DeclTree → IdentTree → List NameFault
array_faults vs i = option_map_or (λ v. when (not (is_array vs v)) (NotArray i.span)) (place_of i.text (names vs)) (Unknown i.span ∷ [])

-- a named kind is one of those that are listed
abbrev pub named_faults : List KindSpec → KindTree → List NameFault
named_faults kinds PlainTree = []
named_faults kinds (NamedTree i) = when (is_none (place_of i.text (kind_names kinds))) (NoKind i.span)
named_faults kinds (FreeTree span) = []

-- the hardware lists the operator, and its kind
abbrev pub kind_faults : Hardware → Op → Span → KindTree → List NameFault
kind_faults h op span kind = option_map_or (λ o. named_faults o.kinds kind) (find (λ o. is_op o.op op) h.operators) (NoKind span ∷ [])

abbrev pub expr_faults : Hardware → List DeclTree → ExprTree → List NameFault
expr_faults h vs (NumTree n) = []
expr_faults h vs (NameTree i) = scalar_faults vs i
expr_faults h vs (ElemTree i e) = array_faults vs i ++ expr_faults h vs e
expr_faults h vs (BinTree op span kind l r) = expr_faults h vs l ++ kind_faults h op span kind ++ expr_faults h vs r

abbrev pub exprs_faults : Hardware → List DeclTree → List ExprTree → List NameFault
exprs_faults h vs [] = []
exprs_faults h vs (e ∷ es) = expr_faults h vs e ++ exprs_faults h vs es

-- ---- calls

-- the function that is called takes so many arguments, all of them scalars, and has a claim on its result
abbrev pub called_faults : Span → ℕ → FuncTree → List NameFault
called_faults span n g =
    when (not (length g.params == n)) (Arity span) ++ when (list_any (λ d. is_some d.length) g.params) (ArrayParam span)
    ++ when (not (list_any (λ c. is_none c.target) g.claims)) (NoClaim span)

-- an earlier function has the name
abbrev pub callee_faults : List FuncTree → IdentTree → ℕ → List NameFault
callee_faults earlier callee n =
    option_map_or (called_faults callee.span n) (find (λ g. same_text g.name.text callee.text) earlier) (NoCallee callee.span ∷ [])

-- ---- statements

abbrev mutual
  pub stmt_faults : Hardware → List FuncTree → List DeclTree → StmtTree → List NameFault
  stmt_faults h earlier vs (SetTree at i e) = scalar_faults vs i ++ expr_faults h vs e
  stmt_faults h earlier vs (SetElemTree at i x e) = array_faults vs i ++ expr_faults h vs x ++ expr_faults h vs e
  stmt_faults h earlier vs (IfTree at e s t) = expr_faults h vs e ++ block_faults h earlier vs s ++ block_faults h earlier vs t
  stmt_faults h earlier vs (WhileTree at e n s) = expr_faults h vs e ++ block_faults h earlier vs s
  stmt_faults h earlier vs (RepeatTree at n s) = block_faults h earlier vs s
  stmt_faults h earlier vs (ReturnTree at e) = expr_faults h vs e
  stmt_faults h earlier vs (CallTree at i word callee es) = scalar_faults vs i ++ callee_faults earlier callee (length es) ++ exprs_faults h vs es

  pub block_faults : Hardware → List FuncTree → List DeclTree → Block → List NameFault
  block_faults h earlier vs ended = []
  block_faults h earlier vs (also s rest) = stmt_faults h earlier vs s ++ block_faults h earlier vs rest

-- ---- declarations and claims

-- each variable that has the name of one before it
abbrev pub twice_faults : List Bytes → List DeclTree → List NameFault
twice_faults seen [] = []
twice_faults seen (d ∷ ds) = when (is_among d.name.text seen) (Twice d.name.span) ++ twice_faults (seen ++ d.name.text ∷ []) ds

-- a named memory is one of the hardware's
abbrev pub memory_faults : List MemSpec → KindTree → List NameFault
memory_faults memories PlainTree = []
memory_faults memories (NamedTree i) = when (is_none (place_of i.text (memory_names memories))) (NoMemory i.span)
memory_faults memories (FreeTree span) = []

abbrev pub memories_faults : List MemSpec → List DeclTree → List NameFault
memories_faults memories [] = []
memories_faults memories (d ∷ ds) = memory_faults memories d.memory ++ memories_faults memories ds

-- how many numbers a variable holds
abbrev pub size : DeclTree → ℕ
size d = option_map_or (λ n. n) d.length 1

-- the first variable with which more than 65,536 numbers are held, where so many are held before it
abbrev pub limit_faults : ℕ → List DeclTree → List NameFault
limit_faults held [] = []
limit_faults held (d ∷ ds) = if nat_le (held + size d) 65536 then limit_faults (held + size d) ds else Limit d.name.span ∷ []

-- a claim names parameters
abbrev pub param_faults : List DeclTree → IdentTree → List NameFault
param_faults params i = when (is_none (place_of i.text (names params))) (ClaimParam i.span)

abbrev pub needs_faults : List DeclTree → List IdentTree → List NameFault
needs_faults params [] = []
needs_faults params (i ∷ is) = param_faults params i ++ needs_faults params is

abbrev pub claim_faults : List DeclTree → SaidTree → List NameFault
claim_faults params c = option_map_or (param_faults params) c.target [] ++ needs_faults params c.needs

abbrev pub claims_faults : List DeclTree → List SaidTree → List NameFault
claims_faults params [] = []
claims_faults params (c ∷ cs) = claim_faults params c ++ claims_faults params cs

-- ---- a function

-- all that is wrong with the names of a function, after these functions of the unit
abbrev pub function_faults : Hardware → List FuncTree → FuncTree → List NameFault
function_faults h earlier f =
    twice_faults [] (variables f) ++ memories_faults h.memories (variables f) ++ limit_faults 0 (variables f) ++ claims_faults f.params f.claims
    ++ block_faults h earlier (variables f) f.body
