use Rattle.std.proofs.Common.{◌≡◌, ◌+◌, ◌<◌, ◌≤◌, ◌∷◌, ◌++◌, [], ℕ, List, length, sym, subst, arith}
use Rattle.std.specs.Prelude.{string_bytes}
use Rattle.module_loading.specs.Loading.{Loaded, size_of}
use Rattle.module_loading.specs.Requests.{waits}
use Rattle.module_loading.specs.Supplying.{HandsOut, one_more}
use Rattle.module_loading.specs.States.{StopsAfter}
use Rattle.module_loading.specs.declared.fault.LoadFault.TheVariants as fault
use Rattle.module_loading.proofs.Added.{found-fault, kept-fault, refused, too-long-together}
use Rattle.module_loading.proofs.Arrived.{stops}
use Rattle.module_loading.proofs.Coming.{next-comes, next-new}
use Rattle.module_loading.proofs.Grown.{shows-added}
use Rattle.module_loading.proofs.graph.add_bytes.Goals as goal

pub returns-in-Ok-clause-adds : goal.returns-in-Ok-clause-adds
returns-in-Ok-clause-adds g c = λ told entry start modules rest wait next holds kept handed.
    let r = g.R.ReadsModules in
    let old = c.args.loading.now in
    let bytes = c.args.bytes.items in
    let path = string_bytes c.args.path in
    let made = c.in-Ok.made in
    let ends = c.in_ok-take-in-Ok.ensures in
    let one : Loaded _ = record { path = path; bytes = bytes; made = made } in
    let exact : c.saturating_add-size.result ≡ old.size + length bytes = grind (arith, c.saturating_add-size.ensures, c.if-size-gt-MOST_TOGETHER.false) in
    let within : size_of modules + length bytes ≤ 16777216 = grind (arith, exact, kept.size_is, c.if-size-gt-MOST_TOGETHER.false) in
    let P : List ℕ → Type 0 = λ p. r.reads p bytes made in
    let H : List ℕ → Type 0 = λ p. g.S.SuppliesModules.hands_out c.args.supply.now p bytes c.supplied.new.self in record {
      modules = modules ++ one ∷ [];
      waiting = waits (length modules) (length (r.requests made)) ++ rest;
      comes = next-comes told r.reads r.requests bytes made next (record { holds = holds; short = c.requires; within = within }) (subst P c.as_str.ensures.value c.in-Ok.ensures.read);
      kept = shows-added modules rest old c.take.new.loading path bytes made (length (r.requests made)) c.saturating_add-size.result kept ends.paths (next-new told r.reads r.requests next) ends.modules ends.size exact ends.waiting;
      handed = one_more one handed (subst H c.as_str.ensures.value c.in-Ok.ensures.handed);
    }

pub returns-then-size-gt-MOST_TOGETHER-clause-adds :
    goal.returns-then-size-gt-MOST_TOGETHER-clause-adds
returns-then-size-gt-MOST_TOGETHER-clause-adds g c = λ told entry start modules rest wait next holds kept handed.
    let r = g.R.ReadsModules in
    let old = c.args.loading.now in
    let bytes = c.args.bytes.items in
    let long : 16777216 < size_of modules + length bytes = grind (arith, kept.size_is, c.saturating_add-size.ensures, c.if-size-gt-MOST_TOGETHER.true) in
    let own = c.in_ok-name_of.field-0 in
    stops r.reads r.requests r.shows r.refuses told entry g.S.SuppliesModules.hands_out start c.args.supply.now old modules (fault.GraphTooLong own)
    (too-long-together r.reads r.requests r.shows r.refuses told entry modules rest wait (string_bytes c.args.path) own bytes next c.in_ok-name_of.ensures holds c.requires long)
    kept.modules_are handed

pub returns-in-Err-Refused-clause-adds : goal.returns-in-Err-Refused-clause-adds
returns-in-Err-Refused-clause-adds g c = λ told entry start modules rest wait next holds kept handed.
    let r = g.R.ReadsModules in
    let old = c.args.loading.now in
    let bytes = c.args.bytes.items in
    let path = string_bytes c.args.path in
    let told_fault = c.in_ok-in_module-in-Err-Refused.field-0 in
    let exact : c.saturating_add-size.result ≡ old.size + length bytes = grind (arith, c.saturating_add-size.ensures, c.if-size-gt-MOST_TOGETHER.false) in
    let within : size_of modules + length bytes ≤ 16777216 = grind (arith, exact, kept.size_is, c.if-size-gt-MOST_TOGETHER.false) in
    let R : List ℕ → Type 0 = λ p. r.refuses p bytes c.in-Err-Refused.fault in
    let here = c.as_str.result.now in
    let fault_is = found-fault (r.reads here bytes) (r.refuses here bytes) c.in-Err-Refused.field-0 c.in-Err-Refused.fault c.in-Err-Refused.field-0-is c.in-Err-Refused.ensures.read in
    let same = kept-fault g.row.R-Module.Denot (c.supplied.new.self ≡ c.args.supply.now) c.in-Err-Refused.field-0 c.in-Err-Refused.fault c.in-Err-Refused.field-0-is c.in-Err-Refused.ensures.refused in
    let H : _ → Type 0 = λ s. HandsOut g.S.SuppliesModules.hands_out start modules s in
    let P : _ → Type 0 = λ f. StopsAfter r.reads r.requests r.shows r.refuses told entry modules f in
    stops r.reads r.requests r.shows r.refuses told entry g.S.SuppliesModules.hands_out start c.supplied.new.self old modules told_fault
    (subst P (sym c.in_ok-in_module-in-Err-Refused.ensures)
    (refused r.reads r.requests r.shows r.refuses told entry modules rest wait path bytes c.in-Err-Refused.fault next holds c.requires within (subst R c.as_str.ensures.value fault_is)))
    kept.modules_are (subst H (sym same) handed)
