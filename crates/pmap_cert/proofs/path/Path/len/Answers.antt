use Rattle.std.proofs.Common.{sym}
use Rattle.pmap_cert.proofs.Paths.{path-length}
use Rattle.pmap_cert.proofs.path.Path.len.Goals as goal

pub returns : goal.returns
returns c = sym (path-length c.args.self.now.value c.args.self.now.count)
