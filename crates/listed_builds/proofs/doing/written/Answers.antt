use Rattle.std.proofs.Common.{◌≡◌, ℕ, ◌+◌, List, [], ◌∷◌, Err, map, drop, sym, ap, ◌∙◌, subst}
use Rattle.std.proofs.Math.Nat.{le_trans}
use Rattle.std.proofs.lemmas.List.{append-nil, drop_all, drop_more}
use Rattle.std.proofs.lemmas.Result.{err_from_is_err_and}
use Rattle.edited_files.specs.EditedFiles.{base_of, edit_of}
use Rattle.module_loading.specs.Files.{Told}
use Rattle.listed_builds.specs.Doing.{Does, IfUnread, ReadsAt, Step, Writes, ended, step_of}
use Rattle.listed_builds.proofs.Done.{one_later, one_more, unread_there}
use Rattle.listed_builds.proofs.doing.written.Goals as goal

pub loop-edit-preserved : goal.loop-edit-preserved
loop-edit-preserved g c =
    let i = c.loop-edit.invariant in
    let d = c.in_ok-do_edit.ensures in
    let n = c.loop-edit.edit-index in
    let edits = c.args.edits.now in
    let writes = g.B.BuildsAgain.writes c.args.entry.now c.args.hosts.now in
    let reads = g.B.BuildsAgain.reads c.args.entry.now in
    let base = g.F.Files.files (base_of c.args.edited.now).now in
    let step = step_of c.edit-item.result in
    let here = ap (λ es. map step_of es) (drop_more edits n c.edit-item.result c.loop-edit-test.true ∙ ap (λ e. e ∷ drop (n + 1) edits) (sym c.edit-item.is)) in
    let does = subst (λ (told : Told). Does writes told step (edit_of c.loop-edit.edited) (g.B.BuildsAgain.keeps c.loop-edit.builds) c.loop-edit.text.items (edit_of c.do_edit.new.edited) (g.B.BuildsAgain.keeps c.do_edit.new.builds) c.do_edit.new.text.items) i.0 d.does in (
      d.base ∙ i.0,
      d.same_base ∙ i.1,
      le_trans i.2 d.no_fall,
      one_more writes base (map step_of edits) (map step_of (drop n edits)) (map step_of (drop (n + 1) edits)) step (edit_of c.args.edited.now) (edit_of c.loop-edit.edited) (edit_of c.do_edit.new.edited) (g.B.BuildsAgain.keeps c.args.builds.now) (g.B.BuildsAgain.keeps c.loop-edit.builds) (g.B.BuildsAgain.keeps c.do_edit.new.builds) c.loop-edit.text.items c.do_edit.new.text.items here does i.3,
      one_later reads base (map step_of edits) (map step_of (drop n edits)) (map step_of (drop (n + 1) edits)) step (edit_of c.args.edited.now) (edit_of c.loop-edit.edited) (edit_of c.do_edit.new.edited) here does.0 i.4,
    )

pub returns-in_err-do_edit-clause-reads : goal.returns-in_err-do_edit-clause-reads
returns-in_err-do_edit-clause-reads g c =
    let i = c.loop-edit.invariant in
    let n = c.loop-edit.edit-index in
    let edits = c.args.edits.now in
    let reads = g.B.BuildsAgain.reads c.args.entry.now in
    let base = g.F.Files.files (base_of c.args.edited.now).now in
    let step = step_of c.edit-item.result in
    let here = ap (λ es. map step_of es) (drop_more edits n c.edit-item.result c.loop-edit-test.true ∙ ap (λ e. e ∷ drop (n + 1) edits) (sym c.edit-item.is)) in
    let fault = c.in_err-do_edit.field-0.0 in
    let reading = subst (λ (told : Told). IfUnread {A = Unit {0}} (Err fault) (ReadsAt reads told step (edit_of c.loop-edit.edited))) i.0 c.in_err-do_edit.ensures.reads in
    let p = err_from_is_err_and c.from_residual.result c.from_residual.ensures.1 in
    let same : c.from_residual.result ≡ Err fault = p.1 ∙ ap (λ f. Err f) p.2 in
    unread_there reads base (Unit {0}) (map step_of edits) (map step_of (drop n edits)) (map step_of (drop (n + 1) edits)) step (edit_of c.args.edited.now) (edit_of c.loop-edit.edited) fault c.from_residual.result here same i.4 reading

pub returns-clause-writes : goal.returns-clause-writes
returns-clause-writes g c =
    let i = c.loop-edit.invariant in
    let n = c.loop-edit.edit-index in
    let edits = c.args.edits.now in
    let writes = g.B.BuildsAgain.writes c.args.entry.now c.args.hosts.now in
    let base = g.F.Files.files (base_of c.args.edited.now).now in
    let none : map step_of (drop n edits) ≡ [] = ap (λ es. map step_of es) (drop_all n edits c.loop-edit-test.false) in
    let all = i.3 [] (subst (λ (l : List Step). Writes writes base l (edit_of c.loop-edit.edited) (g.B.BuildsAgain.keeps c.loop-edit.builds) []) (sym none) ended) in
    subst (λ (t : List ℕ). Writes writes base (map step_of edits) (edit_of c.args.edited.now) (g.B.BuildsAgain.keeps c.args.builds.now) t) (append-nil c.loop-edit.text.items) all
