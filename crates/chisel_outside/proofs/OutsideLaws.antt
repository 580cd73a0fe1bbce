-- Laws of fetches and puts.
use Rattle.std.proofs.Common.{ℕ, ◌≡◌, ◌+◌, ◌<◌, true, false, [], ◌∷◌, ◌++◌, Option, refl, ap, ◌∙◌, arith}
use Rattle.chisel_outside.specs.declared.shelf.Fetched.{Fetched}
use Rattle.chisel_outside.specs.declared.shelf.Fetched.TheVariants.{Whole, Longer, Failed, Memory}
use Rattle.chisel_outside.specs.declared.sink.Put.TheVariants as put
use Rattle.chisel_outside.specs.Outside.{Bytes, Log, faults_of, failures, Fetches, Rose, Puts}

-- a marked pair counts
pub faults_of-marked : (log : Log) (name : Bytes) → faults_of (log ++ (name, true) ∷ []) ≡ faults_of log + 1
faults_of-marked [] name = refl
faults_of-marked ((other, true) ∷ log) name = ap (λ n. n + 1) (faults_of-marked log name)
faults_of-marked ((other, false) ∷ log) name = faults_of-marked log name

-- a pair without a mark doesn't
pub faults_of-unmarked : (log : Log) (name : Bytes) → faults_of (log ++ (name, false) ∷ []) ≡ faults_of log + 0
faults_of-unmarked [] name = refl
faults_of-unmarked ((other, true) ∷ log) name = ap (λ n. n + 1) (faults_of-unmarked log name) ∙ (omega arith)
faults_of-unmarked ((other, false) ∷ log) name = faults_of-unmarked log name

-- the marked pairs grow by one where the fetch failed, and else stay
pub Fetches-faults : (held : Option (Option Bytes)) (name : Bytes) (limit : ℕ) (old new : Log) (answer : Fetched) → Fetches held name limit old new answer → faults_of new ≡ faults_of old + failures answer
Fetches-faults held name limit old new (Whole bytes) fetches = ap faults_of fetches.2 ∙ faults_of-unmarked old name
Fetches-faults held name limit old new Longer fetches = ap faults_of fetches.1 ∙ faults_of-unmarked old name
Fetches-faults held name limit old new Failed fetches = ap faults_of fetches ∙ faults_of-marked old name
Fetches-faults held name limit old new Memory fetches = ap faults_of fetches ∙ omega arith

-- a count that rose is above 0
pub Rose-positive : (old new : ℕ) → Rose old new → 0 < new
Rose-positive old new rose = omega arith

-- after a put that failed the count is above 0, so that each later put is late
pub Puts-failed : (old new : Option Bytes) (piece : Bytes) (before after : ℕ) → Puts old new piece before after put.Failed → 0 < after
Puts-failed old new piece before after puts = Rose-positive before after puts.2
