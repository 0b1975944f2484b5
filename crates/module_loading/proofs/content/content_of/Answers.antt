use Rattle.std.proofs.Common.{◌<◌, ◌≤◌, length, arith}
use Rattle.module_loading.proofs.Contents.{found-long, found-short}
use Rattle.module_loading.proofs.content.content_of.Goals as goal

pub returns-then-len-clause-found : goal.returns-then-len-clause-found
returns-then-len-clause-found g c =
    let long : 4194304 < length c.in-Found.bytes.items = search (arith, c.in-Found.bytes.ok, c.len.ensures, c.if-len.true) in
    found-long (g.W.FindsFiles.files c.args.files.now) c.args.path.now c.in-Found.bytes.items c.in-Found.ensures.told long

pub returns-else-len-clause-found : goal.returns-else-len-clause-found
returns-else-len-clause-found g c =
    let short : length c.in-Found.bytes.items ≤ 4194304 = search (arith, c.in-Found.bytes.ok, c.len.ensures, c.if-len.false) in
    (found-short (g.W.FindsFiles.files c.args.files.now) c.args.path.now c.in-Found.bytes.items c.in-Found.ensures.told short, short)
