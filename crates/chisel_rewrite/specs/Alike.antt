-- Kernels that are the same, spans aside, but for their kinds and memories.
use Rattle.std.specs.Prelude.{◌≡◌, ℕ, Bool, List, map, Option}
use Rattle.std.specs.List.{AllZip}
use Rattle.rely_num.specs.Texts.{Bytes}
use Rattle.rely_kernel.specs.Choice.{setting_of}
use Rattle.rely_kernel.specs.Text.{block_of}
use Rattle.rely_kernel.specs.declared.kernel.CallSite.{CallSite}
use Rattle.rely_kernel.specs.declared.kernel.Kernel.{Kernel}
use Rattle.rely_kernel.specs.declared.kernel.Linked.{Linked}
use Rattle.rely_kernel.specs.declared.kernel.Slot.{Slot}
use Rattle.rely_kernel.specs.declared.kernel.Slot.TheVariants.{Named}
use Rattle.rely_kernel.specs.declared.kernel.Var.{Var}
use Rattle.rely_kernel.specs.declared.setting.Setting.{Setting}

-- a variable apart from its memory
pub record Shape : Type 0 where
  pub name : Bytes
  pub length : Option ℕ
  pub param : Bool

abbrev pub shape_of : Var → Shape
shape_of v = record { name = v.name; length = v.length; param = v.param }

-- a call place apart from where it stands
abbrev pub anywhere : CallSite → CallSite
anywhere c = record { callee = c.callee; bound = c.bound; needs = c.needs; mark = record { from = 0; to = 0 } }

-- the other is the same, spans aside, but has these kinds and memories
pub record IsWith (kind_slots memory_slots : List Slot) (k other : Kernel) : Type 0 where
  pub shapes : map shape_of other.vars ≡ map shape_of k.vars
  pub memories : map (λ v. v.memory) other.vars ≡ memory_slots
  pub ops : map (λ s. s.op) other.sites ≡ map (λ s. s.op) k.sites
  pub kinds : map (λ s. s.kind) other.sites ≡ kind_slots
  pub calls : map anywhere other.calls ≡ map anywhere k.calls
  pub text : block_of other.body ≡ block_of k.body
  pub claims : other.claims ≡ k.claims

-- the other is the same, spans aside
abbrev pub IsLike : Kernel → Kernel → Type 0
IsLike k other = IsWith (map (λ s. s.kind) k.sites) (map (λ v. v.memory) k.vars) k other

-- the other is the same, spans aside, but has what the setting has named at every place
abbrev pub IsSetBy : Setting → Kernel → Kernel → Type 0
IsSetBy t k other = IsWith (map Named t.sites) (map Named t.memories) k other

-- the function has what the choice has named at its open places; those that it reaches are the same, spans aside
pub record IsNamedBy (choice : List ℕ) (l other : Linked) : Type 0 where
  pub kernel : IsSetBy (setting_of l.kernel choice) l.kernel other.kernel
  pub inner : AllZip IsLike l.inner other.inner
