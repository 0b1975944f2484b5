use Rattle.std.proofs.Common.{ℕ, ◌<◌, List, length, sym, subst}
use Rattle.std.specs.List.{All}
use Rattle.module_endings.specs.declared.cover.Entry.{Entry}
use Rattle.module_endings.specs.Ends.{all_wants}
use Rattle.module_endings.specs.Webs.{AreEntries, Covered, IsTrue}
use Rattle.module_endings.proofs.Covering.{true-wanted}
use Rattle.module_endings.proofs.Reaching.{all-answered, ends-within, users-within}
use Rattle.module_endings.proofs.answers.outcomes.Goals as goal

pub reached-requires-clause-users : goal.reached-requires-clause-users
reached-requires-clause-users c =
    let modules = c.args.modules.now in
    let hosts = c.args.hosts.now in
    let E : List Entry → Type 0 = λ es. AreEntries modules es in
    let said : IsTrue modules hosts c.in_ok-wanted.wanted.web = true-wanted modules hosts (all_wants modules) c.in_ok-wanted.wanted c.in_ok-wanted.ensures in
    let covered : Covered modules hosts c.in_ok-wanted.wanted.web c.cover_all.new.web = c.in_ok-cover_all.ensures.covered modules (subst E (sym c.deref.ensures.value) c.in_ok-entries.ensures) said in
    let P : List (List ℕ) → Type 0 = λ us. All (λ list. All (λ node. node < length us) list) us in
    subst P (sym c.deref-2.ensures.value) (users-within modules hosts c.cover_all.new.web covered.said)

pub reached-requires-clause-ends : goal.reached-requires-clause-ends
reached-requires-clause-ends c =
    let modules = c.args.modules.now in
    let hosts = c.args.hosts.now in
    let E : List Entry → Type 0 = λ es. AreEntries modules es in
    let said : IsTrue modules hosts c.in_ok-wanted.wanted.web = true-wanted modules hosts (all_wants modules) c.in_ok-wanted.wanted c.in_ok-wanted.ensures in
    let covered : Covered modules hosts c.in_ok-wanted.wanted.web c.cover_all.new.web = c.in_ok-cover_all.ensures.covered modules (subst E (sym c.deref.ensures.value) c.in_ok-entries.ensures) said in
    let P : List (List ℕ) → Type 0 = λ us. All (λ node. node < length us) c.as_slice.result.now in
    let Q : List ℕ → Type 0 = λ es. All (λ node. node < length c.cover_all.new.web.users.items) es in
    subst P (sym c.deref-2.ensures.value) (subst Q (sym c.as_slice.ensures) (ends-within modules hosts c.cover_all.new.web covered.said))

pub returns : goal.returns
returns c =
    let modules = c.args.modules.now in
    let hosts = c.args.hosts.now in
    let E : List Entry → Type 0 = λ es. AreEntries modules es in
    let said : IsTrue modules hosts c.in_ok-wanted.wanted.web = true-wanted modules hosts (all_wants modules) c.in_ok-wanted.wanted c.in_ok-wanted.ensures in
    let covered : Covered modules hosts c.in_ok-wanted.wanted.web c.cover_all.new.web = c.in_ok-cover_all.ensures.covered modules (subst E (sym c.deref.ensures.value) c.in_ok-entries.ensures) said in
    all-answered modules hosts c.in_ok-wanted.wanted c.cover_all.new.web c.deref-2.result.now c.as_slice.result.now c.as_slice-numbers.result.now c.in_ok-found.found c.as_slice-2.result.now c.in_ok-all.all
    c.requires c.in_ok-wanted.ensures covered c.in_ok-cover_all.ensures.distinct c.deref-2.ensures.value c.as_slice.ensures c.in_ok-found.ensures
    c.as_slice-2.ensures c.as_slice-numbers.ensures c.in_ok-all.ensures
