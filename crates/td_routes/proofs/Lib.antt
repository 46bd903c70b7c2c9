mod PartFacts
mod RouteFacts
