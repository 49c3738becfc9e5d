pub mod ListLemmas
pub mod TicketLemmas
pub mod OrdersLemmas
pub mod PartsLemmas
pub mod PhaseLemmas
mod PlanLemmas
mod StepLemmas
mod ApplyLemmas
mod FrontLemmas
mod AdmissionLemmas
mod PassLemmas
mod TurnLemmas
mod StepForms
pub mod EventLemmas
pub mod AdditionLemmas
mod RunLemmas
mod QueueTurnLemmas
pub mod ConsistentLemmas
pub mod CauseLemmas
mod QuiescentLemmas
pub mod MildLemmas
pub mod ValueLemmas
mod WrittenLemmas
mod TurnsLeftLemmas
pub mod EndLemmas
mod EmptyingLemmas
mod EvictionLemmas
pub mod CallLemmas
pub mod ReturnLemmas
mod InnerLemmas
mod ReplayLemmas
mod CalledLemmas
mod SentenceLemmas
mod WeightLemmas
mod UndisturbedLemmas
mod AdmissionRunLemmas
mod AdmitLemmas
mod CountLemmas
mod StandLemmas
mod HitLemmas
mod HitEventLemmas
mod LockedExample
mod Schedules
pub mod StepsLemmas
