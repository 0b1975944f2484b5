use Rattle.std.proofs.Common.{◌≡◌, ◌<◌, List, length, Some, sym, ap, ◌∙◌, subst}
use Rattle.std.specs.Prelude.{slice_get}
use Rattle.std.proofs.lemmas.Option.{slice_get-get_or, slice_get_within}
use Rattle.es6_ast.specs.declared.graph.Request.{Request}
use Rattle.module_loading.proofs.Asked.{asked}
use Rattle.module_loading.proofs.Lists.{one-there}
use Rattle.module_loading.proofs.loading.asked_of.Goals as goal

pub returns : goal.returns
returns g c = λ modules waiting kept.
    let requests = g.R.ReadsModules.requests in
    let l = c.args.loading.now in
    let i = c.args.wait.importer in
    let k = c.args.wait.index in
    let made = c.index-as_slice-wait.result in
    let request = c.index-requests-wait.result in
    let I : List _ → Type 0 = λ list. i < length list in
    let inside : i < length c.as_slice.result.now = subst I (sym c.as_slice.ensures) (slice_get_within l.modules i c.requires.within.made c.requires.within.stands) in
    let there : slice_get l.modules i ≡ Some made
    = ap (λ list. slice_get list i) (sym c.as_slice.ensures) ∙ slice_get-get_or c.as_slice.result.now i made inside ∙ ap (λ z. Some z) (sym c.index-as_slice-wait.is) in
    let same : c.requires.within.made ≡ made = one-there l.modules i c.requires.within.made made c.requires.within.stands there in
    let K : List Request → Type 0 = λ list. k < length list in
    let within : k < length c.requests.result.now = subst K (ap requests same ∙ sym c.requests.ensures) c.requires.within.within in
    let wanted : slice_get (requests made) k ≡ Some request
    = ap (λ list. slice_get list k) (sym c.requests.ensures) ∙ slice_get-get_or c.requests.result.now k request within ∙ ap (λ z. Some z) (sym c.index-requests-wait.is) in
    asked requests g.R.ReadsModules.shows modules waiting l c.args.wait made request c.path.result.now c.place.result kept there wanted c.path.ensures c.place.ensures
