use Rattle.std.proofs.Common.{ℕ, ◌<◌, List, length, Some, None, subst, ◌∙◌}
use Rattle.std.specs.Prelude.{string_bytes}
use Rattle.module_loading.specs.declared.fault.LoadFault.TheVariants as fault
use Rattle.module_loading.specs.Files.{Holds}
use Rattle.module_loading.proofs.Added.{missing, too-long, unread}
use Rattle.module_loading.proofs.Arrived.{stops}
use Rattle.module_loading.proofs.Lists.{err-same}
use Rattle.module_loading.proofs.graph.add.Goals as goal

pub returns-in_ok-missing_at-in-Missing-clause-adds :
    goal.returns-in_ok-missing_at-in-Missing-clause-adds
returns-in_ok-missing_at-in-Missing-clause-adds g c = λ entry start modules rest next kept handed.
    let r = g.R.ReadsModules in
    let told = g.W.FindsFiles.files c.args.files.now in
    let P : List ℕ → Type 0 = λ path. Holds told path None in
    stops r.reads r.requests r.shows r.refuses told entry g.S.SuppliesModules.hands_out start c.args.supply.now c.args.loading.now modules c.in_ok-missing_at-in-Missing.field-0
    (missing r.reads r.requests r.shows r.refuses told entry c.in_ok-missing_at-in-Missing.field-0 next (subst P c.as_str.ensures.value c.in-Missing.ensures.found)
    (c.in_ok-missing_at-in-Missing.ensures.told modules rest kept)) kept.modules_are handed

pub returns-in_ok-missing_at-in-Missing-clause-failed :
    goal.returns-in_ok-missing_at-in-Missing-clause-failed
returns-in_ok-missing_at-in-Missing-clause-failed g c = λ h. absurd (c.in_ok-missing_at-in-Missing.ensures.no_read h.0 (err-same h.1))

pub returns-in_ok-name_of-in-Long-clause-adds : goal.returns-in_ok-name_of-in-Long-clause-adds
returns-in_ok-name_of-in-Long-clause-adds g c = λ entry start modules rest next kept handed.
    let r = g.R.ReadsModules in
    let told = g.W.FindsFiles.files c.args.files.now in
    let P : List ℕ → Type 0 = λ path. (bytes : List ℕ) × Holds told path (Some bytes) × (4194304 < length bytes) in
    let found = subst P c.as_str.ensures.value c.in-Long.ensures.found in
    let own = c.in_ok-name_of-in-Long.field-0 in
    stops r.reads r.requests r.shows r.refuses told entry g.S.SuppliesModules.hands_out start c.args.supply.now c.args.loading.now modules (fault.FileTooLong own)
    (too-long r.reads r.requests r.shows r.refuses told entry modules rest c.args.next.wait (string_bytes c.args.next.path) own found.0 next c.in_ok-name_of-in-Long.ensures found.1 found.2)
    kept.modules_are handed

pub returns-in_ok-name_of-in-Failed-clause-adds :
    goal.returns-in_ok-name_of-in-Failed-clause-adds
returns-in_ok-name_of-in-Failed-clause-adds g c = λ entry start modules rest next kept handed.
    let r = g.R.ReadsModules in
    let told = g.W.FindsFiles.files c.args.files.now in
    let own = c.in_ok-name_of-in-Failed.field-0 in
    stops r.reads r.requests r.shows r.refuses told entry g.S.SuppliesModules.hands_out start c.args.supply.now c.args.loading.now modules (fault.ReadFault own)
    (unread r.reads r.requests r.shows r.refuses told entry modules rest c.args.next.wait (string_bytes c.args.next.path) own next c.in_ok-name_of-in-Failed.ensures)
    kept.modules_are handed
