-- The kernels that a function of a source means, or the first refusal.
use Rattle.std.specs.Prelude.{ℕ, Bool, List, [], ◌∷◌, ◌++◌, take, slice_get, Option, Some, None, Result, Ok, Err, if◌then◌else◌}
use Rattle.std.specs.Option.{option_map_or}
use Rattle.rely_num.specs.Texts.{Bytes, is_among}
use Rattle.rely_hard.specs.declared.hardware.Hardware.{Hardware}
use Rattle.rely_kernel.specs.declared.kernel.Linked.{Linked}
use Rattle.rely_tree.specs.Tree.{StmtTree, SetTree, SetElemTree, IfTree, WhileTree, RepeatTree, ReturnTree, CallTree, Block, ended, also, FuncTree, UnitTree}
use Rattle.rely_resolve.specs.Faults.{first_of, function_faults}
use Rattle.rely_resolve.specs.Kernels.{Done, kernel_of}
use Rattle.rely_resolve.specs.Names.{place_of, function_names}
use Rattle.rely_resolve.specs.declared.fault.NameFault.{NameFault}
use Rattle.rely_resolve.specs.declared.fault.NameFault.TheVariants.{Twice, Function}

-- ---- which functions are reached

-- the names of the functions that a text calls
abbrev mutual
  pub stmt_callees : StmtTree → List Bytes
  stmt_callees (SetTree at i e) = []
  stmt_callees (SetElemTree at i x e) = []
  stmt_callees (IfTree at e s t) = block_callees s ++ block_callees t
  stmt_callees (WhileTree at e most s) = block_callees s
  stmt_callees (RepeatTree at turns s) = block_callees s
  stmt_callees (ReturnTree at e) = []
  stmt_callees (CallTree at i word callee es) = callee.text ∷ []

  pub block_callees : Block → List Bytes
  block_callees ended = []
  block_callees (also s rest) = stmt_callees s ++ block_callees rest

-- the names that f calls, and those that the reached ones of the functions before it call
abbrev pub called_from : FuncTree → List FuncTree → List Bytes
called_from f [] = block_callees f.body
called_from f (g ∷ gs) =
    let later = called_from f gs in
    later ++ (if is_among g.name.text later then block_callees g.body else [])

-- g is reached: f, or a reached one of the functions between g and f, calls it
abbrev pub is_reached : FuncTree → List FuncTree → FuncTree → Bool
is_reached f between g = is_among g.name.text (called_from f between)

-- which of these functions before f are reached, the last one first
abbrev pub marks : FuncTree → List FuncTree → List Bool
marks f [] = []
marks f (g ∷ gs) = marks f gs ++ is_reached f gs g ∷ []

-- ---- the kernels, function by function

-- the refusal, where there is one
abbrev pub unless : Option NameFault → Result Linked NameFault → Result Linked NameFault
unless None r = r
unless (Some fault) r = Err fault

-- the fault of a function that stands after these, if it has one
abbrev pub fault_of : Hardware → List FuncTree → FuncTree → Option NameFault
fault_of h earlier f = first_of (function_faults h earlier f)

-- one more function
abbrev pub with_function : Hardware → Done → FuncTree → Done
with_function h done g = record { names = done.names ++ g.name.text ∷ []; kernels = done.kernels ++ kernel_of h done g ∷ [] }

abbrev pub nothing_done : Done
nothing_done = record { names = []; kernels = [] }

-- f and the reached ones of the functions that are left before it; the earlier ones are done
abbrev pub linked_from : Hardware → FuncTree → List FuncTree → Done → List FuncTree → Result Linked NameFault
linked_from h f earlier done [] = unless (fault_of h earlier f) (Ok (record { kernel = kernel_of h done f; inner = done.kernels }))
linked_from h f earlier done (g ∷ gs) =
    let reached = is_reached f gs g in
    unless (if reached then fault_of h earlier g else None) (linked_from h f (earlier ++ g ∷ []) (if reached then with_function h done g else done) gs)

-- ---- the whole

-- the first function that has the name of one before it
abbrev pub twice_among : List Bytes → List FuncTree → Option NameFault
twice_among seen [] = None
twice_among seen (f ∷ fs) = if is_among f.name.text seen then Some (Twice f.name.span) else twice_among (seen ++ f.name.text ∷ []) fs

-- the function of number m
abbrev pub linked_at : Hardware → List FuncTree → ℕ → Result Linked NameFault
linked_at h fs m = option_map_or (λ f. linked_from h f [] nothing_done (take m fs)) (slice_get fs m) (Err Function)

-- the kernel of the function of that name with those of the functions that it reaches, or the first refusal
abbrev pub linked_of : UnitTree → Bytes → Hardware → Result Linked NameFault
linked_of u function h = unless (twice_among [] u.functions) (option_map_or (linked_at h u.functions) (place_of function (function_names u.functions)) (Err Function))
