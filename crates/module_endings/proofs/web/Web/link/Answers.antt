use Rattle.std.proofs.Common.{refl}
use Rattle.module_endings.proofs.Linking.{linked-one}
use Rattle.module_endings.proofs.web.Web.link.Goals as goal

pub returns : goal.returns
returns c = linked-one c.args.user c.args.place c.in_ok-at.at c.args.self.now c.place.new.self _ c.in_ok-at.ensures refl c.in_ok-add_user.ensures refl
