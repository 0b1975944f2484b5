use Rattle.std.proofs.Common.{◌≡◌, ℕ, ◌+◌, ◌<◌, List, drop, length, map, take, Some, Err, sym, ap, ◌∙◌, subst, arith}
use Rattle.std.specs.Prelude.{slice_get}
use Rattle.std.proofs.lemmas.Option.{slice_get-get_or}
use Rattle.std.proofs.lemmas.Result.{err_from_is_err_and}
use Rattle.module_endings.specs.declared.answers.Outcome.{Outcome}
use Rattle.module_endings.specs.declared.answers.Outcome.TheVariants.{Ends as EndsAt}
use Rattle.module_endings.specs.declared.place.Place.{Place as Target}
use Rattle.module_endings.specs.Ends.{AreOutcomes, all_wants}
use Rattle.module_links.specs.Links.{AreLinked, OwnLinks, graph_of}
use Rattle.module_links.proofs.Shared.{own-within, rest-size, share-more, share-refused}
use Rattle.module_links.proofs.links.share.Goals as goal

pub returns-in_err-ends : goal.returns-in_err-ends
returns-in_err-ends c =
    let p = err_from_is_err_and c.from_residual.result c.from_residual.ensures.1 in
    let modules = c.args.modules.now in
    let known = c.args.known.now in
    let i = c.loop-index.index in
    let m = c.index-modules-index.result in
    let s = c.index-as_slice-index.result in
    let rest = c.loop-index.rest.now in
    let offsets = c.index-as_slice-index-in-loop-index.result in
    let there : slice_get modules i ≡ Some m = slice_get-get_or modules i m (omega arith) ∙ ap (λ z. Some z) (sym c.index-modules-index.is) in
    let in-s : i < length c.as_slice.result.now = (let n : length c.as_slice.result.now ≡ length known.summaries = ap length c.as_slice.ensures in omega (arith, n, c.requires.summed.summaries.size)) in
    let is : slice_get known.summaries i ≡ Some s = ap (λ list. slice_get list i) (sym c.as_slice.ensures) ∙ slice_get-get_or c.as_slice.result.now i s in-s ∙ ap (λ z. Some z) (sym c.index-as_slice-index.is) in
    let in-o : i < length c.as_slice-in-loop-index.result.now = (let n : length c.as_slice-in-loop-index.result.now ≡ length known.offsets = ap length c.as_slice-in-loop-index.ensures in omega (arith, n, c.requires.summed.size)) in
    let offs : slice_get known.offsets i ≡ Some offsets = ap (λ list. slice_get list i) (sym c.as_slice-in-loop-index.ensures) ∙ slice_get-get_or c.as_slice-in-loop-index.result.now i offsets in-o ∙ ap (λ z. Some z) (sym c.index-as_slice-index-in-loop-index.is) in
    let wants-are : c.as_slice-wants.result.now ≡ s.wants = c.as_slice-wants.ensures ∙ ap (λ z. z.wants) (sym c.index-as_slice-index.is) in
    let front : c.split_at.result.0.now ≡ take (length s.wants) rest = c.split_at.ensures.front ∙ ap (λ list. take (length list) rest) wants-are in
    let P : List Target → Type 0 = λ ts. OwnLinks m.lines m.path ts c.as_slice-offsets.result.now c.split_at.result.0.now (Err c.in_err-ends.field-0.0) in
    let Q : List ℕ → Type 0 = λ os. OwnLinks m.lines m.path s.wants os c.split_at.result.0.now (Err c.in_err-ends.field-0.0) in
    let R : List Outcome → Type 0 = λ os. OwnLinks m.lines m.path s.wants offsets os (Err c.in_err-ends.field-0.0) in
    let first : OwnLinks m.lines m.path s.wants offsets (take (length s.wants) rest) (Err c.in_err-ends.field-0.0) = subst R front (subst Q c.as_slice-offsets.ensures (subst P wants-are c.in_err-ends.ensures)) in
    rw (p.1, p.2) (λ hosts linkable are. (
    let before = c.loop-index.invariant.1 hosts linkable are in
    share-refused modules known hosts c.requires.summed linkable i m s offsets rest there is offs before.0 c.loop-index.all before.1 c.in_err-ends.field-0.0 first))

pub loop-index-preserved : goal.loop-index-preserved
loop-index-preserved c =
    let modules = c.args.modules.now in
    let known = c.args.known.now in
    let i = c.loop-index.index in
    let m = c.index-modules-index.result in
    let s = c.index-as_slice-index.result in
    let rest = c.loop-index.rest.now in
    let there : slice_get modules i ≡ Some m = slice_get-get_or modules i m (omega arith) ∙ ap (λ z. Some z) (sym c.index-modules-index.is) in
    let in-s : i < length c.as_slice.result.now = (let n : length c.as_slice.result.now ≡ length known.summaries = ap length c.as_slice.ensures in omega (arith, n, c.requires.summed.summaries.size)) in
    let is : slice_get known.summaries i ≡ Some s = ap (λ list. slice_get list i) (sym c.as_slice.ensures) ∙ slice_get-get_or c.as_slice.result.now i s in-s ∙ ap (λ z. Some z) (sym c.index-as_slice-index.is) in
    let wants-are : c.as_slice-wants.result.now ≡ s.wants = c.as_slice-wants.ensures ∙ ap (λ z. z.wants) (sym c.index-as_slice-index.is) in
    let front : c.split_at.result.0.now ≡ take (length s.wants) rest = c.split_at.ensures.front ∙ ap (λ list. take (length list) rest) wants-are in
    let back : c.split_at.result.1.now ≡ drop (length s.wants) rest = c.split_at.ensures.back ∙ ap (λ list. drop (length list) rest) wants-are in
    let own : take (length s.wants) rest ≡ map EndsAt c.in_ok-ends.field-0 = sym front ∙ c.in_ok-ends.ensures in (
      ap length back ∙ rest-size s.wants (all_wants (drop (i + 1) known.summaries)) rest (own-within known.summaries i s rest is c.loop-index.invariant.0),
      λ hosts linkable are. (
          let before = c.loop-index.invariant.1 hosts linkable are in
          let after = share-more modules known hosts c.requires.summed linkable i m s rest there is before.0 c.loop-index.all c.push.new.self c.in_ok-ends.field-0 before.1 own c.in_ok-push.ensures.ok in
          let P : List Outcome → Type 0 = λ os. AreOutcomes known.summaries hosts (all_wants (drop (i + 1) known.summaries)) os in
          (subst P (sym back) after.0, after.1)),
    )

pub returns : goal.returns
returns c = λ hosts linkable are.
    let all : c.loop-index.index ≡ length c.args.modules.now = omega arith in
    let P : ℕ → Type 0 = λ n. AreLinked (graph_of c.args.modules.now) hosts n c.loop-index.all in
    subst P all (c.loop-index.invariant.1 hosts linkable are).1
