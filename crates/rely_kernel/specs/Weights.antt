-- The law of weights: what every lawful tree keeps of its weight, by one path through what is left to do.
use Rattle.std.specs.Prelude.{◌≡◌, ℕ, ◌*◌, ◌^◌, ◌≤◌, ℤ, List, [], Some, slice_get, sum, Contains, IsTrue}
use Rattle.rely_num.specs.Bounds.{S}
use Rattle.rely_num.specs.Products.{product}
use Rattle.rely_num.specs.declared.conj.Conj.{Conj}
use Rattle.rely_hard.specs.declared.hardware.Hardware.{Hardware}
use Rattle.rely_kernel.specs.declared.kernel.Kernel.{Kernel}
use Rattle.rely_kernel.specs.declared.label.Label.{Label}
use Rattle.rely_kernel.specs.declared.setting.Setting.{Setting}
use Rattle.rely_kernel.specs.declared.setting.Store.{Store}
use Rattle.rely_kernel.specs.Bound.{HasShape, agree, same_at}
use Rattle.rely_kernel.specs.Machine.{Config, Ends, items}
use Rattle.rely_kernel.specs.Paths.{all_paths, claimed}
use Rattle.rely_kernel.specs.Rates.{rate, rates}
use Rattle.rely_kernel.specs.Running.{AllFine}
use Rattle.rely_kernel.specs.Sound.{CalleesHold}
use Rattle.rely_kernel.specs.Text.{Block}
use Rattle.rely_kernel.specs.Tree.{Tree, IsLawful, root, weight, weight_where}
use Rattle.rely_kernel.specs.Valid.{AreLinked}

-- whole statements are left to do in a function for which no other waits
abbrev pub running : ℕ → Block → List ℤ → Store → Config
running f block stack store = record { items = items block []; stack = stack; function = f; store = store; frames = [] }

-- the weight of a tree's ends that have the target as that end has it
abbrev pub good_in : ℕ → Config → Tree → ℕ
good_in target end tree = weight_where (λ d. same_at target d.store end.store) tree

-- where a lawful tree begins as c does, with a store that agrees on the path's set, at least the share that is the path's
-- product of the probabilities ends with the target right
pub record KeepsWeight (fs : List Kernel) (p : ℕ → Label → ℕ) (k : Kernel) (probabilities : List ℕ) (target : ℕ) (c end : Config) (path : Conj) : Type 0 where
  pub in_each : (tree : Tree) (store : Store) → IsLawful fs p tree → root tree ≡ record c { store = store }
      → HasShape k store → IsTrue (agree path.vars.bits c.store store)
      → product probabilities path.counts * weight tree ≤ good_in target end tree * S ^ sum path.counts

-- from wherever whole statements are left to do, a path of the target through them keeps the weight of the reliable end's target
abbrev pub WeightsAreKept : Type 0
WeightsAreKept =
    (h : Hardware) (fs : List Kernel) (ts : List Setting) (f : ℕ) (k : Kernel) (t : Setting)
    (target : ℕ) (block : Block) (stack : List ℤ) (store : Store) (end : Config)
    → AreLinked fs → slice_get fs f ≡ Some k → slice_get ts f ≡ Some t → CalleesHold fs (rate h fs ts) k
    → AllFine fs f k block → HasShape k store → Ends fs (running f block stack store) end
    → (path : Conj) × Contains (all_paths k block (claimed k target)) path
    × KeepsWeight fs (rate h fs ts) k (rates h k t) target (running f block stack store) end path
