-- Refusals and want of memory are told apart.
use Rattle.std.proofs.Common.{ℕ, ◌≡◌, get_or, ap, arith, inl, inr, refl}
use Rattle.rely_num.specs.Texts.{Bytes}
use Rattle.chisel_lines.specs.Apart.{NoneForMemory, RefusedAsNamed}
use Rattle.chisel_lines.specs.declared.refusal.Refusal.TheVariants as refusal

pub refused_named : RefusedAsNamed
refused_named (refusal.Source reason place) = inl refl
refused_named (refusal.Hardware why key outer inner) = inl refl
refused_named (refusal.Inputs why sample var) = inl refl
refused_named (refusal.Limit limit number) = inr refl

-- the first letter behind `fault `
abbrev letter : Bytes → ℕ
letter text = get_or text 6 0

pub none_for_memory : NoneForMemory
none_for_memory (refusal.Source reason place) same = let s_for_m : 115 ≡ 109 = ap letter same in absurd (omega (arith, s_for_m))
none_for_memory (refusal.Hardware why key outer inner) same = let h_for_m : 104 ≡ 109 = ap letter same in absurd (omega (arith, h_for_m))
none_for_memory (refusal.Inputs why sample var) same = let i_for_m : 105 ≡ 109 = ap letter same in absurd (omega (arith, i_for_m))
none_for_memory (refusal.Limit limit number) same = let l_for_m : 108 ≡ 109 = ap letter same in absurd (omega (arith, l_for_m))
