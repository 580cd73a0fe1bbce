use Rattle.std.proofs.Common.{◌≡◌, ◌+◌, ◌-◌, ◌∙◌, Some, None, ap, sym, subst, take, drop, refl, rules, arith}
use Rattle.std.specs.Prelude.{sum}
use Rattle.chisel_cert.specs.declared.cert.Mark.TheVariants.{Pool}
use Rattle.chisel_cert.specs.Node.{trees_of}
use Rattle.chisel_cert.specs.Tree.{branch}
use Rattle.chisel_cert.proofs.Nodes.{tree_of-Branch, tree_of-Leaf}
use Rattle.chisel_search.specs.Fold.{IsPut, child_count}
use Rattle.chisel_search.specs.Logs.{count_by, decision_of, fate_of}
use Rattle.chisel_search.proofs.Folding.{put_is}
use Rattle.chisel_search.proofs.fold.Built.put.Goals as goal

pub returns-in-Some : goal.returns-in-Some
returns-in-Some c =
    let s = c.args.self.now in
    subst (λ x. IsPut c.args.t.now c.args.visit.now x s.nodes.items s.sizes.items c.set.new.self.nodes.items c.set.new.self.sizes.items) (sym c.in-Some.is)
    (put_is c.args.t.now c.args.visit.now (Some c.in-Some.close) s.nodes.items s.sizes.items c.set.new.self.nodes.items c.set.new.self.sizes.items _ _
    c.set.ensures.nodes c.set.ensures.sizes c.requires.nodes.own c.requires.sizes.own (tree_of-Leaf (Pool c.in-Some.close)) refl)

pub option_count-requires : goal.option_count-requires
option_count-requires c =
    let l = c.requires.decision (ap fate_of c.in-Divided.is) in
    let e = ap decision_of c.in-Divided.is in
    omega arith

pub returns : goal.returns
returns c =
    let t = c.args.t.now in
    let v = c.args.visit.now in
    let s = c.args.self.now in
    let none : c.args.close ≡ None = search rules in
    let d = ap decision_of c.in-Divided.is in
    let n : c.option_count.result ≡ child_count t v = c.option_count.ensures ∙ sym (ap (λ f. count_by t (decision_of f) (fate_of f)) c.in-Divided.is) in
    let nodes = c.in_ok-children.ensures ∙ (λ i. take (v.first + n i - v.first) (drop v.first (c.deref.ensures.value i))) in
    let sizes = c.total-size.ensures ∙ (λ i. sum (take (v.first + n i - v.first) (drop v.first (c.deref-2.ensures.value i)))) in
    subst (λ x. IsPut t v x s.nodes.items s.sizes.items c.set-2.new.self.nodes.items c.set-2.new.self.sizes.items) (sym none)
    (put_is t v None s.nodes.items s.sizes.items c.set-2.new.self.nodes.items c.set-2.new.self.sizes.items _ _
    c.set-2.ensures.nodes c.set-2.ensures.sizes c.requires.nodes.own c.requires.sizes.own
    (tree_of-Branch c.in-Divided.decision _ ∙ (λ i. branch (sym d i) (trees_of (nodes i)))) (ap (λ x. x + 1) sizes))
