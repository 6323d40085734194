use Rattle.std.proofs.Common.{length, set, ap, ◌∙◌, arith}
use Rattle.std.specs.Prelude.{slice_get}
use Rattle.std.specs.Option.{option_map}
use Rattle.tc_core.specs.Events.{course_past, custody_past, release_of}
use Rattle.tc_core.specs.View.{CoreView}
use Rattle.tc_core.proofs.Parts.{past_became}
use Rattle.tc_core.proofs.machine.Core.commit.Goals as goal

pub returns : goal.returns
returns c =
    let t = c.args.thread in
    let v : CoreView = record { workers = c.self.inside.workers; batch = c.self.inside.limit; plain = c.self.inside.slow; courses = c.self.inside.courses; custodies = c.self.inside.custodies } in
    let release = c.release-release.ensures ∙ ap release_of c.at-course.ensures in
    past_became c.args.image.now v c.args.self.now c.args.worker t c.put.new.self c.release.new.self c.self.view_is c.requires.parts record {
      thread = (let same = ap (λ (s : CoreView). length s.courses) c.self.view_is in let long = c.requires.parts.courses in let lt = c.requires.thread in omega arith);
      course = c.put.ensures ∙ ap (λ x. set c.self.inside.courses t x) (c.after_block.ensures ∙ ap course_past c.at-course.ensures);
      custody = λ k. c.release.ensures.each k ∙ (λ i. option_map (custody_past c.args.worker t (c.held-held.ensures i k) (release i)) (slice_get c.self.inside.custodies k));
      long = c.release.ensures.long;
    }
