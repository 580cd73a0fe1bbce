-- Laws of the loops over a reader and a writer.
use Rattle.std.proofs.Common.{ℕ, inl, inr, List, ◌++◌, length, Option, None, Some, Err, ap, ◌∙◌, subst, length-append, append-nil, arith}
use Rattle.std.specs.declared.io.ErrorKind.{ErrorKind}
use Rattle.chisel_outside.specs.Outside.{Bytes}
use Rattle.chisel_outside.specs.Device.{Answer, GainsSome, GoOn, EndIn, MovesNone}
use Rattle.chisel_outside.specs.Host.{Reads, ReadsBy, Holds, IsFault, WritesBy}
use Rattle.chisel_outside.specs.declared.sink.Put.TheVariants as put
use Rattle.chisel_outside.specs.declared.shelf.Fetched.{Fetched}
use Rattle.chisel_outside.specs.declared.shelf.Fetched.TheVariants.{Whole, Longer, Failed, Memory}

-- an error that ends the calls is what the fetch answers
ReadsBy-error : (kind : ErrorKind) (fetched : Fetched) (answers : List Answer) → IsFault kind fetched → EndIn (Err kind) answers → ReadsBy fetched answers
ReadsBy-error kind (Whole bytes) answers fault end = absurd fault
ReadsBy-error kind Longer answers fault end = absurd fault
ReadsBy-error kind Failed answers fault end = (kind, fault, end)
ReadsBy-error kind Memory answers fault end = inr (subst (λ k. EndIn (Err k) answers) fault end)

pub GainsSome-error : (a b : Option (List Answer)) (kind : ErrorKind) (fetched : Fetched) → IsFault kind fetched → GainsSome a b (EndIn (Err kind)) → GainsSome a b (ReadsBy fetched)
GainsSome-error a b kind fetched fault (xs, gains, end) = (xs, gains, ReadsBy-error kind fetched xs fault end)

pub GainsSome-refused : (a b : Option (List Answer)) → GainsSome a b GoOn → GainsSome a b (ReadsBy Memory)
GainsSome-refused a b (xs, gains, go_on) = (xs, gains, inl go_on)

-- what is read is what was left
pub Holds-from_reads : (limit : ℕ) (old new : Option Bytes) (fetched : Fetched) → Reads limit old new fetched → Holds limit old fetched
Holds-from_reads limit None new (Whole bytes) reads = (reads.0, tt)
Holds-from_reads limit (Some x) None (Whole bytes) reads = absurd reads.1
Holds-from_reads limit (Some x) (Some y) (Whole bytes) reads = (reads.0, reads.1 ∙ ap (λ l. bytes ++ l) reads.2 ∙ append-nil bytes)
Holds-from_reads limit None new Longer reads = tt
Holds-from_reads limit (Some x) None Longer reads = absurd reads.2
Holds-from_reads limit (Some x) (Some y) Longer reads = omega (arith, reads.1, ap length reads.2, length-append reads.0 y)
Holds-from_reads limit old new Failed reads = tt
Holds-from_reads limit old new Memory reads = tt

-- a write that moved nothing ends the calls
pub GainsSome-stopped : (a b : Option (List Answer)) (last : Answer) → MovesNone last → GainsSome a b (EndIn last) → GainsSome a b (WritesBy put.Failed)
GainsSome-stopped a b last none (xs, gains, end) = (xs, gains, (last, none, end))
