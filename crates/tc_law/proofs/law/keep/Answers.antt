use Rattle.tc_law.proofs.Lawful.{fresh_lawful, appended, strict_states, one_history, short_history, rests_free, held_owned}
use Rattle.tc_law.proofs.law.keep.Goals as goal

pub returns-clause-begin : goal.returns-clause-begin
returns-clause-begin c = λ a. fresh_lawful a.image a.fuel a.limit a.packages a.states

pub returns-clause-append : goal.returns-clause-append
returns-clause-append c = λ a. appended a.image a.fuel a.limit a.history a.packages a.states

pub returns-clause-strict : goal.returns-clause-strict
returns-clause-strict c = λ a. strict_states a.image a.packages a.states

pub returns-clause-one : goal.returns-clause-one
returns-clause-one c = λ a h others. one_history a.image a.fuel a.limit a.history h a.packages a.states others

pub returns-clause-short : goal.returns-clause-short
returns-clause-short c = λ a. short_history a.image a.fuel a.limit a.history a.packages a.states

pub returns-clause-free : goal.returns-clause-free
returns-clause-free c = λ a. rests_free a.image a.fuel a.limit a.history a.packages a.states

pub returns-clause-held : goal.returns-clause-held
returns-clause-held c = λ a. held_owned a.image a.fuel a.limit a.history a.packages a.states
