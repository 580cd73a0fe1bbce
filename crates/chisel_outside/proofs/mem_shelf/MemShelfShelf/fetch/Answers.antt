use Rattle.std.proofs.Common.{◌≡◌, ◌∙◌, ap, option_map, ⊎_elim, inl, inr, Some, arith, rules}
use Rattle.std.proofs.lemmas.Grind.{common_steps}
use Rattle.chisel_outside.specs.Memory.{lookup, given, found}
use Rattle.chisel_outside.proofs.OutsideLaws.{Fetches-faults}
use Rattle.chisel_outside.proofs.mem_shelf.MemShelfShelf.fetch.Goals as goal

pub returns-clause-exact : goal.returns-clause-exact
returns-clause-exact c =
    let e : option_map (λ b. b.now) c.found_in-found.result ≡ found c.args.self.now c.args.name.now = rw (← c.self.view_is) (grind (arith, common_steps)) in
    ⊎_elim (λ a. inl a) (λ b. inr (b ∙ ap (λ o. given o c.args.limit) e)) c.copy_of-fetched.ensures

pub returns-clause-faults : goal.returns-clause-faults
returns-clause-faults c =
    Fetches-faults (Some (lookup c.args.name.now c.args.self.now.files)) c.args.name.now c.args.limit c.args.self.now.log c.push.new.self.items c.copy_of-fetched.result (search rules)
