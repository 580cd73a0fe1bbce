use Rattle.std.proofs.Common.{None, rules}
use Rattle.chisel_outside.proofs.OutsideLaws.{Fetches-faults}
use Rattle.chisel_outside.proofs.host_shelf.HostShelfShelf.fetch.Goals as goal

pub returns-clause-faults : goal.returns-clause-faults
returns-clause-faults g c =
    Fetches-faults None c.args.name.now c.args.limit c.args.self.now.log.items c.push.new.self.items c.read_opened-fetched.result (search rules)
